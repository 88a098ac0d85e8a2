-- A log to which nothing can be added has each fact that the rules derive.
use Rattle.std.proofs.Common.{◌≡◌, ℕ, ◌<◌, true, List, [], ◌∷◌, Option, Some, None, refl, sym, ap, ◌∙◌, subst, inl, inr, ⊎_elim}
use Rattle.std.specs.Prelude.{◌≢◌}
use Rattle.std.specs.Option.{option_and_then}
use Rattle.std.proofs.lemmas.Bool.{cases_Bool}
use Rattle.app_model.specs.declared.component.Edge.{Edge}
use Rattle.app_model.specs.Components.{edge_at}
use Rattle.app_model.specs.Facts.{Fact, View, At, Ret, Exc}
use Rattle.app_model.specs.Subject.{SubjectParts}
use Rattle.flow_model.specs.Derived.{Derived, all_done, is_given, by_rule, HasAll, IsLeast}
use Rattle.flow_model.specs.Policy.{none_given}
use Rattle.flow_model.specs.Rules.{Rules, Inside, Starts, Between, Carries, I1, I1_return, I2, I3, I3_leaves, C1, C2, C3, C3_leaves, V1, V2, V3, V4, V5, outside, by_method, entered}
use Rattle.flow_model.specs.Subject.{status_masks}
use Rattle.report_path.specs.declared.goal.Goal.{Goal}
use Rattle.report_path.specs.declared.goal.Goal.TheVariants.{Before, Returned, Thrown}
use Rattle.report_path.specs.declared.report.By.TheVariants.{Start, Other}
use Rattle.report_path.specs.declared.report.ViewStep.{ViewStep}
use Rattle.report_path.specs.Paths.{Follows}
use Rattle.report_path.specs.Tests.{fact_at}
use Rattle.report_path.specs.Views.{IsBy, IsOwn}
use Rattle.solution.specs.Facts.{Facts, holds}
use Rattle.solution.proofs.Bits.{has_true}
use Rattle.fact_log.specs.declared.log.Line.{Line}
use Rattle.fact_log.specs.declared.log.Why.TheVariants.{Entered, Led}
use Rattle.fact_log.specs.Logs.{HasFacts, IsListed, IsLog, IsSeen, end_by, end_in, end_of_line}
use Rattle.fact_log.specs.Work.{IsMissing, IsWork, NothingNew, WorkParts, case_in, line, moved_by, view}

-- ---- what a fact tells of its line
record IsBefore (g : Goal) (m e s n f j t : ℕ) : Type 0 where
  place : g ≡ Before j
  method : m ≡ n
  entry : e ≡ f
  status : s ≡ t

is_before : (g : Goal) (m e s n f j t : ℕ) → fact_at g m e s ≡ At n f j t → IsBefore g m e s n f j t
is_before (Before i) m e s n f j t is = record { place = cc; method = cc; entry = cc; status = cc }
is_before Returned m e s n f j t is = absurd (cc)
is_before Thrown m e s n f j t is = absurd (cc)

no_view : (g : Goal) (m e s c q u : ℕ) → fact_at g m e s ≡ View c q u → ⊥
no_view (Before i) m e s c q u is = absurd (cc)
no_view Returned m e s c q u is = absurd (cc)
no_view Thrown m e s c q u is = absurd (cc)

ret_end : (g : Goal) (m e s n r u : ℕ) → fact_at g m e s ≡ Ret n r u → end_by g (fact_at g m e s) ≡ Some (Ret n r u ∷ [])
ret_end (Before i) m e s n r u is = absurd (cc)
ret_end Returned m e s n r u is = ap (λ f. Some (f ∷ [])) is
ret_end Thrown m e s n r u is = absurd (cc)

exc_end : (g : Goal) (m e s n r u : ℕ) → fact_at g m e s ≡ Exc n r u → end_by g (fact_at g m e s) ≡ Some (Exc n r u ∷ [])
exc_end (Before i) m e s n r u is = absurd (cc)
exc_end Returned m e s n r u is = absurd (cc)
exc_end Thrown m e s n r u is = ap (λ f. Some (f ∷ [])) is

module _ (w : WorkParts) (is : IsWork w) (done : NothingNew w) where
  abbrev Knows : Fact → Type 0
  Knows f = holds w.known f ≡ true

  -- ---- the line, or the view, of a fact that is known
  at_line : (m e i s : ℕ) → Knows (At m e i s) → IsListed w.lines (At m e i s)
  at_line m e i s h = ⊎_elim (λ l. l) (λ v. absurd (let f = v.1.holds in cc)) (is.logged (At m e i s) h)

  ret_line : (m e s : ℕ) → Knows (Ret m e s) → IsListed w.lines (Ret m e s)
  ret_line m e s h = ⊎_elim (λ l. l) (λ v. absurd (let f = v.1.holds in cc)) (is.logged (Ret m e s) h)

  exc_line : (m e s : ℕ) → Knows (Exc m e s) → IsListed w.lines (Exc m e s)
  exc_line m e s h = ⊎_elim (λ l. l) (λ v. absurd (let f = v.1.holds in cc)) (is.logged (Exc m e s) h)

  view_seen : (c q s : ℕ) → Knows (View c q s) → IsSeen w.views (View c q s)
  view_seen c q s h = ⊎_elim (λ l. absurd (let x = l.1.value in no_view x.goal x.method x.entry x.status c q s l.1.holds)) (λ v. v) (is.logged (View c q s) h)

  small : (m e i s : ℕ) → Knows (At m e i s) → s < 8
  unfolding holds
  small m e i s h = (has_true _ e s h).1

  -- ---- what is cited
  abbrev Shown : List Fact → Type 0
  Shown facts = (end : Option ℕ) × (end_in w.lines end ≡ Some facts)

  ret_shown : (m e s : ℕ) → Knows (Ret m e s) → Shown (Ret m e s ∷ [])
  ret_shown m e s h = let l = ret_line m e s h in let x = l.1.value in (Some l.0, ap (option_and_then end_of_line) l.1.at ∙ ret_end x.goal x.method x.entry x.status m e s l.1.holds)

  exc_shown : (m e s : ℕ) → Knows (Exc m e s) → Shown (Exc m e s ∷ [])
  exc_shown m e s h = let l = exc_line m e s h in let x = l.1.value in (Some l.0, ap (option_and_then end_of_line) l.1.at ∙ exc_end x.goal x.method x.entry x.status m e s l.1.holds)

  carried_shown : (c : ℕ) (edge : Edge) (s t : ℕ) {needs : List Fact} → Carries w.subject w.lock c edge s t needs → HasAll (holds w.known) needs → Shown needs
  carried_shown c edge s t (outside none to) has = (None, refl)
  carried_shown c edge s t (by_method m method) has = ret_shown m (entered w.subject w.lock c edge s) t has.0

  -- ---- a line that an instruction leads to is there
  led_line : (m e i s : ℕ) (goal : Goal) (u : ℕ) (ends : List Fact) → Knows (At m e i s) → Shown ends → Follows w.subject w.lock (At m e i s ∷ ends) (fact_at goal m e u) → IsMissing w (fact_at goal m e u) → ⊥
  led_line m e i s goal u ends h shown follows missing =
      let l = at_line m e i s h in
      let y = l.1.value in
      let b = is_before y.goal y.method y.entry y.status m e i s l.1.holds in
      let same : At m e i s ≡ At y.method y.entry i y.status = (let a = b.method in let c = b.entry in let d = b.status in cc) in
      done.lines (line m e goal u (Led l.0 shown.0)) (record {
        missing = missing;
        led = record {
          value = y;
          at = l.1.at;
          holds = record {
            method = b.method;
            entry = b.entry;
            index = i;
            place = b.place;
            status = rw (← b.status) at (small m e i s h);
            by = record { value = ends; at = shown.1; holds = subst (λ (f : Fact). Follows w.subject w.lock (f ∷ ends) (fact_at goal m e u)) same follows };
          };
        };
      })

  entered_line : (m e : ℕ) → IsMissing w (At m e 0 e) → ⊥
  entered_line m e missing = done.lines (line m e (Before 0) e Entered) (record { missing = missing; led = (refl, refl) })

  inside : {needs : List Fact} {f : Fact} → Inside w.subject w.lock (status_masks w.subject w.lock) needs f → HasAll (holds w.known) needs → IsMissing w f → ⊥
  inside (I1 {m = m} {e = e} {i = i} {s = s} {j = j} {t = t} k own to mask) h missing = led_line m e i s (Before j) t [] h.0 (None, refl) (record { rule = I1 k own to mask; stays = λ is. (cc) }) missing
  inside (I1_return {m = m} {e = e} {i = i} {s = s} returns) h missing = led_line m e i s Returned s [] h.0 (None, refl) (record { rule = I1_return returns; stays = λ is. (cc) }) missing
  inside (I2 {m = m} {e = e} {i = i} {s = s} {j = j} {t = t} k own to mask) h missing = led_line m e i s (Before j) t [] h.0 (None, refl) (record { rule = I2 k own to mask; stays = λ is. (cc) }) missing
  inside (I3 {m = m} {e = e} {i = i} {s = s} {h = j} {t = t} k to mask) h missing = led_line m e i s (Before j) t [] h.0 (None, refl) (record { rule = I3 k to mask; stays = λ is. (cc) }) missing
  inside (I3_leaves {m = m} {e = e} {i = i} {s = s} {t = t} leaves mask) h missing = led_line m e i s Thrown t [] h.0 (None, refl) (record { rule = I3_leaves leaves mask; stays = λ is. (cc) }) missing
  inside (C1 {s = s} n callee opened) h missing = entered_line n.0 s missing
  inside (C2 {m = m} {e = e} {i = i} {s = s} {t = t} {j = j} n callee opened to) h missing = led_line m e i s (Before j) t (Ret n.0 s t ∷ []) h.0 (ret_shown n.0 s t h.1.0) (record { rule = C2 n callee opened to; stays = λ is. (cc) }) missing
  inside (C3 {m = m} {e = e} {i = i} {s = s} {t = t} {h = j} n k callee opened to) h missing = led_line m e i s (Before j) t (Exc n.0 s t ∷ []) h.0 (exc_shown n.0 s t h.1.0) (record { rule = C3 n k callee opened to; stays = λ is. (cc) }) missing
  inside (C3_leaves {m = m} {e = e} {i = i} {s = s} {t = t} n callee opened leaves) h missing = led_line m e i s Thrown t (Exc n.0 s t ∷ []) h.0 (exc_shown n.0 s t h.1.0) (record { rule = C3_leaves n callee opened leaves; stays = λ is. (cc) }) missing

  starts : {needs : List Fact} {f : Fact} → Starts w.subject w.lock needs f → IsMissing w f → ⊥
  starts (V3 {c = c} {s = s} {m = m} {edge = edge} e there from method) missing = entered_line m (entered w.subject w.lock c edge s) missing

  -- ---- a view that an edge leads to is there
  own_by : (v : ViewStep) (j e : ℕ) (body : Option ℕ) → IsOwn (case_in w) w.views v j e body → IsBy (case_in w) w.views v (moved_by None j e body)
  own_by v j e None is = is
  own_by v j e (Some b) is = is

  own_view : (c q s u to e : ℕ) (edge : Edge) (needs : List Fact) → edge_at w.subject.list c e ≡ Some edge → edge.from ≡ q → edge.to ≡ to → Carries w.subject w.lock c edge s u needs
      → Knows (View c q s) → HasAll (holds w.known) needs → IsMissing w (View c to u) → ⊥
  own_view c q s u to e edge needs there from enters carried h has missing =
      let l = view_seen c q s h in
      let y = l.1.value in
      let one = l.1.holds in
      let component : y.component ≡ c = cc in
      let state : y.state ≡ q = cc in
      let status : y.status ≡ s = cc in
      let shown = carried_shown c edge s u carried has in
      let by : IsOwn (case_in w) w.views (view c to u (moved_by None l.0 e shown.0)) l.0 e shown.0 = record {
        value = y;
        at = l.1.at;
        holds = record {
          value = edge;
          at = rw component there;
          holds = record {
            component = component;
            enters = enters;
            moves = record { state = from ∙ sym state; carried = record { value = needs; at = shown.1; holds = rw (component, status) carried } };
          };
        };
      } in
      done.views (view c to u (moved_by None l.0 e shown.0)) (record { missing = missing; seen = own_by (view c to u (moved_by None l.0 e shown.0)) l.0 e shown.0 by })

  other_view : (c q d p s u e : ℕ) (edge : Edge) (needs : List Fact) → d ≢ c → edge_at w.subject.list d e ≡ Some edge → edge.from ≡ p → Carries w.subject w.lock d edge s u needs
      → Knows (View c q s) → Knows (View d p s) → HasAll (holds w.known) needs → IsMissing w (View c q u) → ⊥
  other_view c q d p s u e edge needs apart there from carried h g has missing =
      let l = view_seen c q s h in
      let y = l.1.value in
      let one = l.1.holds in
      let r = view_seen d p s g in
      let z = r.1.value in
      let two = r.1.holds in
      let component : z.component ≡ d = cc in
      let state : z.state ≡ p = cc in
      let status : z.status ≡ s = cc in
      let shown = carried_shown d edge s u carried has in
      done.views (view c q u (Other l.0 r.0 e shown.0)) (record {
        missing = missing;
        seen = record {
          value = y;
          at = l.1.at;
          holds = record {
            value = z;
            at = r.1.at;
            holds = record {
              value = edge;
              at = rw component there;
              holds = record {
                component = (cc);
                state = (cc);
                status = (cc);
                apart = λ same. apart (sym component ∙ same);
                moves = record { state = from ∙ sym state; carried = record { value = needs; at = shown.1; holds = rw (component, status) carried } };
              };
            };
          };
        };
      })

  between : {needs : List Fact} {f : Fact} → Between w.subject (Carries w.subject w.lock) needs f → HasAll (holds w.known) needs → IsMissing w f → ⊥
  between (V1 {c = c} lt) h missing = done.views (view c 0 0 Start) (record { missing = missing; seen = (lt, refl, refl) })
  between (V2 {c = c} {q = q} {s = s} {t = t} {to = to} {edge = edge} {needs = needs} e there from enters none carried) h missing = own_view c q s t to e edge needs there from enters carried h.0 h.1 missing
  between (V4 {c = c} {q = q} {s = s} {t = t} {to = to} {edge = edge} {needs = needs} e m there from enters method carried) h missing = own_view c q s t to e edge needs there from enters carried h.0 h.1 missing
  between (V5 {c = c} {q = q} {d = d} {p = p} {s = s} {t = t} {edge = edge} {needs = needs} e apart there from carried) h missing = other_view c q d p s t e edge needs apart there from carried h.0 h.1.0 h.1.1 missing

  whole : {needs : List Fact} {f : Fact} → Rules w.subject w.lock needs f → HasAll (holds w.known) needs → IsMissing w f → ⊥
  whole (inl (inl r)) h missing = inside r h missing
  whole (inl (inr r)) h missing = starts r missing
  whole (inr r) h missing = between r h missing

  module _ (least : IsLeast (Rules w.subject w.lock) none_given (holds w.solution)) where
    known : {fs : List Fact} → Derived (Rules w.subject w.lock) none_given fs → HasAll (holds w.known) fs
    known all_done = tt
    known (is_given g d) = absurd (cc)
    known (by_rule {f = f} r needs d) = (
      ⊎_elim (λ yes. yes) (λ off. absurd (whole r (known needs) (least.complete f (by_rule r needs all_done), off))) (cases_Bool (holds w.known f)),
      known d,
    )

    pub all_logged : HasFacts w.lines w.views (holds w.solution)
    all_logged f h = is.logged f (known (least.sound f h)).0

-- ---- the same of the solution that was given
module _ (w : WorkParts) (is : IsWork w) (x : SubjectParts) (l : ℕ) (t : Facts) (subject : w.subject ≡ x) (lock : w.lock ≡ l) (solution : w.solution ≡ t) (lines : List Line) (views : List ViewStep) (same_lines : lines ≡ w.lines) (same_views : views ≡ w.views) where
  pub right_log : IsLog x l lines views
  right_log =
      let here : IsLog x l w.lines w.views = rw (subject, lock) at is.log in
      rw (same_lines, same_views) here

  pub covers_log : NothingNew w → IsLeast (Rules x l) none_given (holds t) → HasFacts lines views (holds t)
  covers_log done least =
      let own : IsLeast (Rules w.subject w.lock) none_given (holds w.solution) = rw (subject, lock, solution) least in
      let has = all_logged w is done own in
      let here : HasFacts w.lines w.views (holds t) = rw solution at has in
      rw (same_lines, same_views) here
