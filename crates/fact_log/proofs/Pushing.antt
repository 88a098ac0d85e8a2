-- A log that grows by a line or by a view.
use Rattle.std.proofs.Common.{◌≡◌, ℕ, suc, zero, ◌++◌, List, [], ◌∷◌, length, Option, Some, None, refl, sym, ap, ◌∙◌, subst, inl, inr, ⊎_elim, arith}
use Rattle.std.specs.Prelude.{◌⊎◌, slice_get, take}
use Rattle.std.specs.Option.{option_and_then}
use Rattle.std.proofs.lemmas.List.{take-append-le}
use Rattle.std.proofs.lemmas.Option.{slice_get_within}
use Rattle.std.proofs.Math.Seq.{take-append_seam}
use Rattle.app_model.specs.declared.component.Edge.{Edge}
use Rattle.app_model.specs.Facts.{Fact}
use Rattle.app_model.specs.Subject.{SubjectParts}
use Rattle.report_path.specs.declared.report.By.{By}
use Rattle.report_path.specs.declared.report.By.TheVariants.{Start, Outside, Own, Other}
use Rattle.report_path.specs.declared.report.ViewStep.{ViewStep}
use Rattle.report_path.specs.Views.{IsBy, IsOwn, IsView, Moves, fact_of}
use Rattle.solution.specs.Facts.{Facts, holds}
use Rattle.fact_log.specs.declared.log.Line.{Line}
use Rattle.fact_log.specs.Logs.{AreLines, HasFacts, IsLineBy, IsListed, IsLog, case_of_lines, end_in, end_of_line, line_fact}
use Rattle.fact_log.specs.Work.{Came}

same_Some : {X : Type 0} (x y : X) → Some x ≡ Some y → x ≡ y
same_Some x y e = cc

get_front : {X : Type 0} (xs : List X) (x : X) (s : ℕ) (y : X) → slice_get xs s ≡ Some y → slice_get (xs ++ x ∷ []) s ≡ Some y
get_front [] x s y e = absurd (cc)
get_front (z ∷ xs) x zero y e = e
get_front (z ∷ xs) x (suc s) y e = get_front xs x s y e

get_last : {X : Type 0} (xs : List X) (x : X) → slice_get (xs ++ x ∷ []) (length xs) ≡ Some x
get_last [] x = refl
get_last (y ∷ xs) x = get_last xs x

get_grown : {X : Type 0} (xs : List X) (x : X) (s : ℕ) (y : X) → slice_get (xs ++ x ∷ []) s ≡ Some y → (slice_get xs s ≡ Some y) ⊎ ((s ≡ length xs) × (x ≡ y))
get_grown [] x zero y e = inr (refl, same_Some x y e)
get_grown [] x (suc s) y e = absurd (cc)
get_grown (z ∷ xs) x zero y e = inl e
get_grown (z ∷ xs) x (suc s) y e = ⊎_elim (λ l. inl l) (λ r. inr (ap suc r.0, r.1)) (get_grown xs x s y e)

module _ (t : SubjectParts) (l : ℕ) (lines : List Line) (x : Line) where
  abbrev More : List Line
  More = lines ++ x ∷ []

  -- ---- what is cited stays
  cited : (end : Option ℕ) (facts : List Fact) → end_in lines end ≡ Some facts → end_in More end ≡ Some facts
  cited None facts is = is
  cited (Some j) facts is = go (slice_get lines j) refl is
    where
      go : (o : Option Line) → slice_get lines j ≡ o → option_and_then end_of_line o ≡ Some facts → end_in More (Some j) ≡ Some facts
      go None at is = absurd (cc)
      go (Some y) at is = ap (option_and_then end_of_line) (get_front lines x j y at) ∙ is

  moves : (v : ViewStep) (edge : Edge) (body : Option ℕ) (s : ℕ) → Moves (case_of_lines t l lines) v edge body s → Moves (case_of_lines t l More) v edge body s
  moves v edge body s m = record { state = m.state; carried = let h = m.carried in record { value = h.value; at = cited body h.value h.at; holds = h.holds } }

  own : (before : List ViewStep) (v : ViewStep) (j e : ℕ) (body : Option ℕ) → IsOwn (case_of_lines t l lines) before v j e body → IsOwn (case_of_lines t l More) before v j e body
  own before v j e body h =
      let g = h.holds in
      let a = g.holds in
      record { value = h.value; at = h.at; holds = record { value = g.value; at = g.at; holds = record { component = a.component; enters = a.enters; moves = moves h.value g.value body v.status a.moves } } }

  seen_by : (before : List ViewStep) (v : ViewStep) (by : By) → IsBy (case_of_lines t l lines) before v by → IsBy (case_of_lines t l More) before v by
  seen_by before v Start is = is
  seen_by before v (Outside j e) is = own before v j e None is
  seen_by before v (Own j e b) is = own before v j e (Some b) is
  seen_by before v (Other j k e body) h =
      let g = h.holds in
      let f = g.holds in
      let a = f.holds in
      record {
        value = h.value;
        at = h.at;
        holds = record {
          value = g.value;
          at = g.at;
          holds = record { value = f.value; at = f.at; holds = record { component = a.component; state = a.state; status = a.status; apart = a.apart; moves = moves g.value f.value body v.status a.moves } };
        };
      }

  lines_more : AreLines t l lines → IsLineBy t l lines x x.why → AreLines t l More
  lines_more led by k y at =
      ⊎_elim
      (λ old. rw (take-append-le k lines (x ∷ []) (let lt = slice_get_within lines k y old in omega arith)) (led k y old))
      (λ new. rw (new.0, take-append_seam lines (x ∷ [])) (subst (λ (y : Line). IsLineBy t l lines y y.why) new.1 by))
      (get_grown lines x k y at)

  pub log_line : (views : List ViewStep) → IsLog t l lines views → IsLineBy t l lines x x.why → IsLog t l More views
  log_line views log by = record { led = lines_more log.led by; seen = λ k v at. seen_by (take k views) v v.by (log.seen k v at) }

  listed : (f : Fact) → IsListed lines f → IsListed More f
  listed f h = (h.0, record { value = h.1.value; at = get_front lines x h.0 h.1.value h.1.at; holds = h.1.holds })

  pub logged_line : (views : List ViewStep) (old new : Facts) → HasFacts lines views (holds old) → Came old (line_fact x) new → HasFacts More views (holds new)
  logged_line views old new has came f h =
      ⊎_elim
      (λ was. ⊎_elim (λ l. inl (listed f l)) (λ v. inr v) (has f was))
      (λ same. inl (length lines, record { value = x; at = get_last lines x; holds = sym same }))
      (came.only f h)

module _ (t : SubjectParts) (l : ℕ) (lines : List Line) (views : List ViewStep) (v : ViewStep) where
  pub log_view : IsLog t l lines views → IsView (case_of_lines t l lines) views v → IsLog t l lines (views ++ v ∷ [])
  log_view log by = record {
    led = log.led;
    seen = λ k u at. ⊎_elim
        (λ old. rw (take-append-le k views (v ∷ []) (let lt = slice_get_within views k u old in omega arith)) (log.seen k u old))
        (λ new. rw (new.0, take-append_seam views (v ∷ [])) (subst (λ (u : ViewStep). IsView (case_of_lines t l lines) views u) new.1 by))
        (get_grown views v k u at);
  }

  pub logged_view : (old new : Facts) → HasFacts lines views (holds old) → Came old (fact_of v) new → HasFacts lines (views ++ v ∷ []) (holds new)
  logged_view old new has came f h =
      ⊎_elim
      (λ was. ⊎_elim (λ a. inl a) (λ s. inr (s.0, record { value = s.1.value; at = get_front views v s.0 s.1.value s.1.at; holds = s.1.holds })) (has f was))
      (λ same. inr (length views, record { value = v; at = get_last views v; holds = sym same }))
      (came.only f h)
