-- What lines show where they are cited.
use Rattle.std.proofs.Common.{◌≡◌, ℕ, ◌<◌, Bool, false, List, [], ◌∷◌, Option, Some, None, length, refl, sym, ap, ◌∙◌, subst, ⊎_elim, arith}
use Rattle.std.specs.Prelude.{◌↔◌, IsTrue, slice_get}
use Rattle.std.proofs.lemmas.Bool.{cases_lt}
use Rattle.std.proofs.lemmas.List.{get_or_past}
use Rattle.std.proofs.lemmas.Option.{slice_get_past}
use Rattle.std.specs.Option.{option_and_then}
use Rattle.act_model.specs.Acts.{act_at}
use Rattle.app_model.specs.declared.component.Edge.{Edge}
use Rattle.app_model.specs.Components.{callback_at}
use Rattle.app_model.specs.Facts.{Fact, At, Ret}
use Rattle.app_model.specs.Subject.{SubjectParts, IsSubject}
use Rattle.app_model.specs.Words.{no_body, places_of, place_at, code_len}
use Rattle.dalvik.specs.Body.{BodyRows}
use Rattle.flow_model.specs.Rules.{Carries, Inside, I1, I1_return, I2, I3, I3_leaves, C1, C2, C3, C3_leaves, outside, by_method, entered}
use Rattle.flow_model.specs.Subject.{status_masks}
use Rattle.report_path.specs.declared.goal.Goal.{Goal}
use Rattle.report_path.specs.declared.goal.Goal.TheVariants.{Before, Returned, Thrown}
use Rattle.report_path.specs.Lookups.{Has}
use Rattle.report_path.specs.Paths.{Follows}
use Rattle.report_path.specs.Tests.{Shows}
use Rattle.report_path.proofs.Carrying.{only_outside, only_method}
use Rattle.fact_log.specs.declared.log.Line.{Line}
use Rattle.fact_log.specs.Logs.{end_by, end_in, end_of_line, line_fact}
use Rattle.fact_log.specs.Work.{Lines}

-- ---- what is cited
by_nothing : (g : Goal) (f : Fact) → end_by g f ≡ Some [] → ⊥
by_nothing (Before i) f is = absurd (cc)
by_nothing Returned f is = absurd (cc)
by_nothing Thrown f is = absurd (cc)

uncited : (lines : List Line) (body : Option ℕ) → end_in lines body ≡ Some [] → body ≡ None
uncited lines None is = refl
uncited lines (Some j) is = go (slice_get lines j) is
  where
    go : (o : Option Line) → option_and_then end_of_line o ≡ Some [] → Some j ≡ None
    go None is = absurd (cc)
    go (Some b) is = absurd (by_nothing b.goal (line_fact b) is)

module _ (raw t : Lines) (is : raw ≡ t) (c : ℕ) (edge : Edge) (s u : ℕ) (body : Option ℕ) (e : ℕ) (r : Bool) (entry : e ≡ entered raw.subject raw.lock c edge s) where
  abbrev Carried : Lines → Type 0
  Carried t = IsTrue r ↔ Has (end_in t.lines body) (λ ends. Carries t.subject t.lock c edge s u ends)

  pub cited_outside : None ≡ callback_at raw.subject.list c edge.callback → (IsTrue r ↔ ((body ≡ None) × (u ≡ e))) → Carried t
  cited_outside none test = subst Carried is (
    λ on. (let z = test.0 on in record { value = []; at = ap (end_in raw.lines) z.0; holds = outside (sym none) (z.1 ∙ entry) }),
    λ h. (let z = only_outside raw.subject raw.lock c edge s u h.holds (sym none) in test.1 (uncited raw.lines body (h.at ∙ ap Some z.0), z.1 ∙ sym entry)),
  )

  pub cited_method : (m : ℕ) → Some m ≡ callback_at raw.subject.list c edge.callback → (IsTrue r ↔ Shows (end_in t.lines) body (Ret m e u)) → Carried t
  cited_method m some = subst (λ (t : Lines). (IsTrue r ↔ Shows (end_in t.lines) body (Ret m e u)) → Carried t) is (λ test.
      let ret : Ret m e u ∷ [] ≡ Ret m (entered raw.subject raw.lock c edge s) u ∷ [] = ap (λ k. Ret m k u ∷ []) entry in (
        λ on. (let z = test.0 on in record { value = z.value; at = z.at; holds = subst (λ ends. Carries raw.subject raw.lock c edge s u ends) (sym (z.holds ∙ ret)) (by_method m (sym some)) }),
        λ h. test.1 (record { value = h.value; at = h.at; holds = only_method raw.subject raw.lock c edge s u m h.holds (sym some) ∙ sym ret }),
      ))

-- ---- a rule that leads on from an instruction stands at one
module _ (x : SubjectParts) (l : ℕ) (sound : IsSubject x) where
  abbrev InRange : (m i : ℕ) → Type 0
  InRange m i = (m < length x.app.methods) × (i < code_len x.app m)

  there : (m i : ℕ) → (place_at x.app m i ≡ None → ⊥) → InRange m i
  unfolding place_at places_of
  there m i some =
      ⊎_elim
      (λ lt. ⊎_elim
      (λ in_code. (let e = sound.sound.sizes.code in omega (arith, e, in_code), lt))
      (λ past. absurd (let e = ap (λ (b : BodyRows). length b.places) (get_or_past x.app.code m no_body past) in omega (arith, e, lt)))
      (cases_lt m (length x.app.code)))
      (λ past. absurd (some (slice_get_past (places_of x.app m) i past)))
      (cases_lt i (code_len x.app m))

  stands : {needs : List Fact} {f : Fact} (r : Inside x l (status_masks x l) needs f) (m e i s : ℕ) (ends : List Fact) → needs ≡ At m e i s ∷ ends → InRange m i
  unfolding act_at
  stands (I1 {m = n} {i = q} k own to mask) m e i s ends is = let a : n ≡ m = cc in let b : q ≡ i = cc in rw (a, b) at (there n q (λ none. (let to = rw none at to in cc)))
  stands (I1_return {m = n} {i = q} returns) m e i s ends is = let a : n ≡ m = cc in let b : q ≡ i = cc in rw (a, b) at (there n q (λ none. (let to = rw none at returns in cc)))
  stands (I2 {m = n} {i = q} k own to mask) m e i s ends is = let a : n ≡ m = cc in let b : q ≡ i = cc in rw (a, b) at (there n q (λ none. (let to = rw none at to in cc)))
  stands (I3 {m = n} {i = q} k to mask) m e i s ends is = let a : n ≡ m = cc in let b : q ≡ i = cc in rw (a, b) at (there n q (λ none. (let to = rw none at to in cc)))
  stands (I3_leaves {m = n} {i = q} leaves mask) m e i s ends is = let a : n ≡ m = cc in let b : q ≡ i = cc in rw (a, b) at (there n q (λ none. (let to = rw none at leaves in cc)))
  stands (C1 {m = n} {i = q} k callee opened) m e i s ends is = let a : n ≡ m = cc in let b : q ≡ i = cc in rw (a, b) at (there n q (λ none. (let to = rw none at opened in cc)))
  stands (C2 {m = n} {i = q} k callee opened to) m e i s ends is = let a : n ≡ m = cc in let b : q ≡ i = cc in rw (a, b) at (there n q (λ none. (let to = rw none at to in cc)))
  stands (C3 {m = n} {i = q} k j callee opened to) m e i s ends is = let a : n ≡ m = cc in let b : q ≡ i = cc in rw (a, b) at (there n q (λ none. (let to = rw none at to in cc)))
  stands (C3_leaves {m = n} {i = q} k callee opened leaves) m e i s ends is = let a : n ≡ m = cc in let b : q ≡ i = cc in rw (a, b) at (there n q (λ none. (let to = rw none at leaves in cc)))

  pub no_place : (r : Bool) (lines : List Line) (end : Option ℕ) (m e i s : ℕ) (f : Fact) → (IsTrue r ↔ InRange m i) → r ≡ false
      → IsTrue false ↔ Has (end_in lines end) (λ ends. Follows x l (At m e i s ∷ ends) f)
  no_place r lines end m e i s f test off = (λ t. absurd (cc), λ h. absurd (let t = test.1 (stands h.holds.rule m e i s h.value refl) in cc))

-- ---- the same, where lines are read by their parts
pub no_place_at : (raw t : Lines) → raw ≡ t → IsSubject raw.subject → (r : Bool) (end : Option ℕ) (m e i s : ℕ) (f : Fact) → (IsTrue r ↔ ((m < length raw.subject.app.methods) × (i < code_len raw.subject.app m))) → r ≡ false
    → IsTrue false ↔ Has (end_in t.lines end) (λ ends. Follows t.subject t.lock (At m e i s ∷ ends) f)
no_place_at raw t is sound r end m e i s f test off =
    subst (λ (t : Lines). IsTrue false ↔ Has (end_in t.lines end) (λ ends. Follows t.subject t.lock (At m e i s ∷ ends) f)) is (no_place raw.subject raw.lock sound r raw.lines end m e i s f test off)
