-- Where edges carry, by what is cited.
use Rattle.std.proofs.Common.{◌≡◌, ℕ, ◌≤◌, ◌&&◌, Bool, true, false, List, [], ◌∷◌, Option, Some, None, length, refl, sym, ap, ◌∙◌, subst, arith}
use Rattle.std.specs.Prelude.{◌↔◌, IsTrue, option_map, slice_get}
use Rattle.std.proofs.lemmas.List.{get_or_past}
use Rattle.std.proofs.lemmas.Option.{slice_get_past}
use Rattle.app_model.specs.declared.component.Edge.{Edge}
use Rattle.app_model.specs.Components.{callback_at}
use Rattle.app_model.specs.Facts.{Fact, Ret}
use Rattle.app_model.specs.Subject.{SubjectParts, IsSubject, owner_at, owner_of, slot_count}
use Rattle.flow_model.specs.Rules.{Carries, outside, by_method, clears, entered}
use Rattle.flow_model.specs.Status.{reset, reset_column}
use Rattle.report_path.specs.declared.report.BodyPath.{BodyPath}
use Rattle.report_path.specs.Lookups.{Has}
use Rattle.report_path.specs.Paths.{cited_in, end_of}
use Rattle.report_path.specs.Tests.{Given, IsReturn, Shows}
use Rattle.report_path.proofs.Instances.{returned_by}

-- ---- out of range
no_owner : (x : SubjectParts) (l : ℕ) → IsSubject x → slot_count x ≤ l → owner_at x l ≡ None
unfolding owner_at
no_owner x l is past = ap owner_of (slice_get_past x.owners l (let e = is.owners in omega arith))

pub never_clears : (x : SubjectParts) (c l : ℕ) (edge : Edge) → IsSubject x → slot_count x ≤ l → false ≡ clears x c edge l
never_clears x c l edge is past = rw (no_owner x l is past) (go edge.creates)
  where
    go : (b : Bool) → false ≡ (b && false)
    go true = refl
    go false = refl

pub reset_past : (s : ℕ) → 8 ≤ s → 0 ≡ reset s
reset_past s past = sym (get_or_past reset_column s 0 past)

-- ---- what is cited
uncited : (bodies : List BodyPath) (body : Option ℕ) → cited_in bodies body ≡ Some [] → body ≡ None
uncited bodies None is = refl
uncited bodies (Some j) is = go (slice_get bodies j) is
  where
    go : (o : Option BodyPath) → option_map (λ (b : BodyPath). end_of b ∷ []) o ≡ Some [] → Some j ≡ None
    go None is = absurd (cc)
    go (Some b) is = absurd (cc)

end_returns : (b : BodyPath) (m e s : ℕ) → IsReturn b m e s → end_of b ≡ Ret m e s
end_returns b m e s is = rw (is.thrown, is.method, is.entry, is.exit) refl

is_return : (b : BodyPath) (m e s : ℕ) → end_of b ≡ Ret m e s → IsReturn b m e s
is_return b m e s is = (let o = returned_by b.thrown b.method b.entry b.exit m e s (sym is) in record { thrown = o.thrown_is; method = sym o.method; entry = sym o.entry; exit = sym o.exit })

pub shown_none : (bodies : List BodyPath) (body : Option ℕ) (f : Fact) → body ≡ None → IsTrue false ↔ Shows (cited_in bodies) body f
shown_none bodies body f none = (λ t. absurd (cc), λ h. absurd (let is = h.holds in let at = ap (cited_in bodies) (sym none) ∙ h.at in cc))

pub shown_past : (bodies : List BodyPath) (body : Option ℕ) (j : ℕ) (f : Fact) → body ≡ Some j → length bodies ≤ j → IsTrue false ↔ Shows (cited_in bodies) body f
shown_past bodies body j f some past = (
  λ t. absurd (cc),
  λ h. absurd (let at = ap (option_map (λ (b : BodyPath). end_of b ∷ [])) (sym (slice_get_past bodies j past)) ∙ ap (cited_in bodies) (sym some) ∙ h.at in cc),
)

pub shown_by : (bodies : List BodyPath) (body : Option ℕ) (j : ℕ) (b : BodyPath) (m e s : ℕ) (r : Bool) → body ≡ Some j → Some b ≡ slice_get bodies j → (IsTrue r ↔ IsReturn b m e s) → IsTrue r ↔ Shows (cited_in bodies) body (Ret m e s)
shown_by bodies body j b m e s r some there test =
    let ends : cited_in bodies body ≡ Some (end_of b ∷ []) = ap (cited_in bodies) some ∙ ap (option_map (λ (x : BodyPath). end_of x ∷ [])) (sym there) in (
      λ on. record { value = end_of b ∷ []; at = ends; holds = ap (λ f. f ∷ []) (end_returns b m e s (test.0 on)) },
      λ h. test.1 (is_return b m e s (let at = h.at in let is = h.holds in cc)),
    )

-- ---- an edge that carries
module _ (x : SubjectParts) (l c : ℕ) (edge : Edge) (s t : ℕ) where
  pub only_outside : {ends : List Fact} → Carries x l c edge s t ends → callback_at x.list c edge.callback ≡ None → (ends ≡ []) × (t ≡ entered x l c edge s)
  only_outside (outside absent eq) none = (refl, eq)
  only_outside (by_method m is) none = absurd (cc)

  pub only_method : (m : ℕ) {ends : List Fact} → Carries x l c edge s t ends → callback_at x.list c edge.callback ≡ Some m → ends ≡ Ret m (entered x l c edge s) t ∷ []
  only_method m (outside absent eq) some = absurd (cc)
  only_method m (by_method n is) some = (let same : n ≡ m = cc in ap (λ k. Ret k (entered x l c edge s) t ∷ []) same)

  module _ (bodies : List BodyPath) (body : Option ℕ) (e : ℕ) (r : Bool) (entry : e ≡ entered x l c edge s) where
    pub carried_outside : None ≡ callback_at x.list c edge.callback → (IsTrue r ↔ ((body ≡ None) × (t ≡ e))) → IsTrue r ↔ Has (cited_in bodies body) (λ ends. Carries x l c edge s t ends)
    carried_outside none test = (
      λ on. (let z = test.0 on in record { value = []; at = ap (cited_in bodies) z.0; holds = outside (sym none) (z.1 ∙ entry) }),
      λ h. (let z = only_outside h.holds (sym none) in test.1 (uncited bodies body (h.at ∙ ap Some z.0), z.1 ∙ sym entry)),
    )

    pub carried_method : (m : ℕ) → Some m ≡ callback_at x.list c edge.callback → (IsTrue r ↔ Shows (cited_in bodies) body (Ret m e t)) → IsTrue r ↔ Has (cited_in bodies body) (λ ends. Carries x l c edge s t ends)
    carried_method m some test =
        let ret : Ret m e t ∷ [] ≡ Ret m (entered x l c edge s) t ∷ [] = ap (λ k. Ret m k t ∷ []) entry in (
          λ on. (let z = test.0 on in record { value = z.value; at = z.at; holds = subst (λ ends. Carries x l c edge s t ends) (sym (z.holds ∙ ret)) (by_method m (sym some)) }),
          λ h. test.1 (record { value = h.value; at = h.at; holds = only_method m h.holds (sym some) ∙ sym ret }),
        )

-- ---- the same, where a task is read by its parts
module _ (raw t : Given) (is : raw ≡ t) (c : ℕ) (edge : Edge) (s u : ℕ) (body : Option ℕ) (e : ℕ) (r : Bool) (entry : e ≡ entered raw.subject raw.lock c edge s) where
  abbrev Carried : Given → Type 0
  Carried t = IsTrue r ↔ Has (cited_in t.bodies body) (λ ends. Carries t.subject t.lock c edge s u ends)

  pub task_outside : None ≡ callback_at raw.subject.list c edge.callback → (IsTrue r ↔ ((body ≡ None) × (u ≡ e))) → Carried t
  task_outside none test = subst Carried is (carried_outside raw.subject raw.lock c edge s u raw.bodies body e r entry none test)

  pub task_method : (m : ℕ) → Some m ≡ callback_at raw.subject.list c edge.callback → (IsTrue r ↔ Shows (cited_in t.bodies) body (Ret m e u)) → Carried t
  task_method m some = subst (λ (t : Given). (IsTrue r ↔ Shows (cited_in t.bodies) body (Ret m e u)) → Carried t) is (λ test. carried_method raw.subject raw.lock c edge s u raw.bodies body e r entry m some test)
