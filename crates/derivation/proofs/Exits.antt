-- What makes a violation is found where facts are logged.
use Rattle.std.proofs.Common.{◌≡◌, ℕ, ◌<◌, List, [], ◌∷◌, Option, Some, None, refl, sym, ap, ◌∙◌, subst, arith, ⊎_elim}
use Rattle.std.specs.Prelude.{slice_get}
use Rattle.std.specs.Option.{option_and_then}
use Rattle.std.proofs.lemmas.Option.{slice_get_within}
use Rattle.app_model.specs.declared.component.Edge.{Edge}
use Rattle.app_model.specs.declared.component.Kind.{Kind}
use Rattle.app_model.specs.declared.component.Kind.TheVariants.{Activity, Service, Receiver, Runnable}
use Rattle.app_model.specs.Components.{ComponentParts, callback_at, edge_at, edge_of, edges_of}
use Rattle.app_model.specs.Facts.{Fact, View, Ret}
use Rattle.app_model.specs.Subject.{SubjectParts}
use Rattle.flow_model.specs.Derived.{Set, HasAll}
use Rattle.flow_model.specs.Policy.{IsViolation}
use Rattle.flow_model.specs.Rules.{Carries, outside, by_method, entered}
use Rattle.flow_model.specs.declared.policy.Violation.{Violation}
use Rattle.report_path.specs.declared.goal.Goal.{Goal}
use Rattle.report_path.specs.declared.goal.Goal.TheVariants.{Before, Returned, Thrown}
use Rattle.report_path.specs.declared.report.ViewStep.{ViewStep}
use Rattle.report_path.specs.Lookups.{Has}
use Rattle.report_path.specs.Tests.{fact_at}
use Rattle.report_path.specs.Views.{fact_of}
use Rattle.report_path.proofs.Carrying.{only_outside, only_method}
use Rattle.fact_log.specs.declared.log.Line.{Line}
use Rattle.fact_log.specs.Logs.{HasFacts, IsLogged, end_by, end_in, end_of_line}
use Rattle.derivation.specs.declared.cutting.Exit.{Exit}
use Rattle.derivation.specs.Cuts.{IsExitAt}
use Rattle.derivation.specs.Ends.{CarriesBy, FirstRet, IsRetLine, LeavesFrom}

ret_shows : (x : Line) (m e s : ℕ) → IsRetLine x m e s → end_of_line x ≡ Some (Ret m e s ∷ [])
ret_shows x m e s is =
    ap (λ (g : Goal). end_by g (fact_at g x.method x.entry x.status)) is.goal ∙ ap (λ (m : ℕ). Some (Ret m x.entry x.status ∷ [])) is.method ∙ ap (λ (e : ℕ). Some (Ret m e x.status ∷ [])) is.entry ∙ ap (λ (s : ℕ). Some (Ret m e s ∷ [])) is.status

shows_ret : (g : Goal) (a b c m e s : ℕ) → end_by g (fact_at g a b c) ≡ Some (Ret m e s ∷ []) → (g ≡ Returned) × (a ≡ m) × (b ≡ e) × (c ≡ s)
shows_ret (Before i) a b c m e s is = absurd (cc)
shows_ret Returned a b c m e s is = (refl, cc, cc, cc)
shows_ret Thrown a b c m e s is = absurd (cc)

line_of : (lines : List Line) (k m e s : ℕ) → end_in lines (Some k) ≡ Some (Ret m e s ∷ []) → Has (slice_get lines k) (λ x. IsRetLine x m e s)
line_of lines k m e s is = go (slice_get lines k) refl is
  where
    go : (o : Option Line) → slice_get lines k ≡ o → option_and_then end_of_line o ≡ Some (Ret m e s ∷ []) → Has (slice_get lines k) (λ x. IsRetLine x m e s)
    go None at is = absurd (cc)
    go (Some x) at is = (let r = shows_ret x.goal x.method x.entry x.status m e s is in record { value = x; at = at; holds = record { goal = r.0; method = r.1; entry = r.2; status = r.3 } })

module _ (t : SubjectParts) (bad : Violation) (lines : List Line) (v : ViewStep) (edge : Edge) (entry : ℕ) (enters : entry ≡ entered t bad.lock v.component edge v.status) where
  module _ (none : None ≡ callback_at t.list v.component edge.callback) where
    pub by_outside : bad.status ≡ entry → CarriesBy t bad lines v edge None
    by_outside same = record { value = []; at = refl; holds = outside (sym none) (same ∙ enters) }

    pub not_outside : (bad.status ≡ entry → ⊥) → (end : Option ℕ) → CarriesBy t bad lines v edge end → ⊥
    not_outside off end h = off ((only_outside t bad.lock v.component edge v.status bad.status h.holds (sym none)).1 ∙ sym enters)

  module _ (m : ℕ) (some : Some m ≡ callback_at t.list v.component edge.callback) where
    pub by_line : (k : ℕ) → Has (slice_get lines k) (λ x. IsRetLine x m entry bad.status) → CarriesBy t bad lines v edge (Some k)
    by_line k h = record {
      value = Ret m (entered t bad.lock v.component edge v.status) bad.status ∷ [];
      at = ap (option_and_then end_of_line) h.at ∙ ret_shows h.value m entry bad.status h.holds ∙ ap (λ (e : ℕ). Some (Ret m e bad.status ∷ [])) enters;
      holds = by_method m (sym some);
    }

    ret_is : (end : Option ℕ) → CarriesBy t bad lines v edge end → end_in lines end ≡ Some (Ret m entry bad.status ∷ [])
    ret_is end h = h.at ∙ ap Some (only_method t bad.lock v.component edge v.status bad.status m h.holds (sym some)) ∙ ap (λ (e : ℕ). Some (Ret m e bad.status ∷ [])) (sym enters)

    pub not_line : FirstRet lines m entry bad.status None → (end : Option ℕ) → CarriesBy t bad lines v edge end → ⊥
    not_line off None h = (let is = ret_is None h in cc)
    not_line off (Some k) h = (let x = line_of lines k m entry bad.status (ret_is (Some k) h) in off k x.value x.at x.holds)

-- ---- what is found makes the violation
module _ (t : SubjectParts) (bad : Violation) (lines : List Line) (views : List ViewStep) (P : List Fact → Type 0) (is : IsViolation t (Carries t bad.lock) bad.lock P bad.component bad.callback bad.status) where
  pub exit_is : (exit : Exit) → LeavesFrom t bad lines views exit.view exit.edge exit.end → IsExitAt t bad lines views exit
  exit_is exit h =
      let v = h.value in
      let b = h.holds in
      let edge = b.edge.value in
      let way = b.edge.holds in
      let needs = way.carried.value in
      record {
        value = v;
        at = h.at;
        holds = record {
          value = needs;
          at = way.carried.at;
          holds = record {
            violation = record {
              state = v.state;
              before = v.status;
              number = exit.edge;
              edge = edge;
              needs = needs;
              slot = is.slot;
              there = subst (λ (c : ℕ). edge_at t.list c exit.edge ≡ Some edge) b.component b.edge.at;
              from = way.from;
              callback = way.callback;
              carried = subst (λ (c : ℕ). Carries t bad.lock c edge v.status bad.status needs) b.component way.carried.holds;
              holds = ap (λ (c : ℕ). View c v.state v.status ∷ needs) (sym b.component);
              exit = is.exit;
              held = is.held;
              answers = is.answers;
            };
            edge = refl;
          };
        };
      }

few : (kind : Kind) (e : ℕ) (edge : Edge) → slice_get (edges_of kind) e ≡ Some edge → e < 16
few Activity e edge is = let lt = slice_get_within (edges_of Activity) e edge is in omega arith
few Service e edge is = let lt = slice_get_within (edges_of Service) e edge is in omega arith
few Receiver e edge is = let lt = slice_get_within (edges_of Receiver) e edge is in omega arith
few Runnable e edge is = let lt = slice_get_within (edges_of Runnable) e edge is in omega arith

edge_few : (list : List ComponentParts) (c e : ℕ) (edge : Edge) → edge_at list c e ≡ Some edge → e < 16
unfolding edge_at
edge_few list c e edge is = go (slice_get list c) is
  where
    go : (o : Option ComponentParts) → edge_of o e ≡ Some edge → e < 16
    go None is = absurd (cc)
    go (Some row) is = few row.kind e edge is

-- ---- a logged fact has its view, or its end
not_view : (g : Goal) (m e s c q u : ℕ) → fact_at g m e s ≡ View c q u → ⊥
not_view (Before i) m e s c q u is = cc
not_view Returned m e s c q u is = cc
not_view Thrown m e s c q u is = cc

view_in : (lines : List Line) (views : List ViewStep) (c q s : ℕ) → IsLogged lines views (View c q s) → (k : ℕ) × Has (slice_get views k) (λ v. fact_of v ≡ View c q s)
view_in lines views c q s logged = ⊎_elim (λ h. absurd (let x = h.1.value in not_view x.goal x.method x.entry x.status c q s h.1.holds)) (λ h. h) logged

ret_end : (g : Goal) (a b c m e s : ℕ) → fact_at g a b c ≡ Ret m e s → end_by g (fact_at g a b c) ≡ Some (Ret m e s ∷ [])
ret_end (Before i) a b c m e s is = absurd (cc)
ret_end Returned a b c m e s is = ap (λ (f : Fact). Some (f ∷ [])) is
ret_end Thrown a b c m e s is = absurd (cc)

end_logged : (lines : List Line) (views : List ViewStep) (m e s : ℕ) → IsLogged lines views (Ret m e s) → (k : ℕ) × (end_in lines (Some k) ≡ Some (Ret m e s ∷ []))
end_logged lines views m e s logged = ⊎_elim
    (λ h. (let x = h.1.value in (h.0, ap (option_and_then end_of_line) h.1.at ∙ ret_end x.goal x.method x.entry x.status m e s h.1.holds)))
    (λ h. absurd (let is = h.1.holds in cc))
    logged

module _ (t : SubjectParts) (bad : Violation) (lines : List Line) (views : List ViewStep) (set : Set) (facts : HasFacts lines views set) (is : IsViolation t (Carries t bad.lock) bad.lock (HasAll set) bad.component bad.callback bad.status) where
  end_has : (needs : List Fact) → Carries t bad.lock bad.component is.edge is.before bad.status needs → HasAll set needs → (end : Option ℕ) × (end_in lines end ≡ Some needs)
  end_has needs (outside none same) all = (None, refl)
  end_has needs (by_method m some) all = (let r = end_logged lines views m (entered t bad.lock bad.component is.edge is.before) bad.status (facts _ all.0) in (Some r.0, r.1))

  pub no_exit : ((n e : ℕ) (end : Option ℕ) → e < 16 → LeavesFrom t bad lines views n e end → ⊥) → ⊥
  no_exit none =
      let k = view_in lines views bad.component is.state is.before (facts _ is.holds.0) in
      let v = k.1.value in
      let e = end_has is.needs is.carried is.holds.1 in
      let c : v.component ≡ bad.component = (let same = k.1.holds in cc) in
      let q : v.state ≡ is.state = (let same = k.1.holds in cc) in
      let s : v.status ≡ is.before = (let same = k.1.holds in cc) in
      none k.0 is.number e.0 (edge_few t.list bad.component is.number is.edge is.there) (record {
        value = v;
        at = k.1.at;
        holds = record {
          component = c;
          edge = record {
            value = is.edge;
            at = subst (λ (c : ℕ). edge_at t.list c is.number ≡ Some is.edge) (sym c) is.there;
            holds = record {
              callback = is.callback;
              from = is.from ∙ sym q;
              carried = record {
                value = is.needs;
                at = e.1;
                holds = subst (λ (c : ℕ). Carries t bad.lock c is.edge v.status bad.status is.needs) (sym c) (subst (λ (s : ℕ). Carries t bad.lock bad.component is.edge s bad.status is.needs) (sym s) is.carried);
              };
            };
          };
        };
      })
