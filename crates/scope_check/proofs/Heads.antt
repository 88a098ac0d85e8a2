-- Methods as a whole: where a test is passed its rule is broken.
use Rattle.std.proofs.Common.{◌≡◌, ℕ, zero, suc, ◌<◌, ◌==◌, true, not, List, length, refl, sym, ap, ◌∙◌, subst, ⊎_elim, arith, Contains, Option, Some, None, slice_get, slice_index, eqb-true}
use Rattle.std.specs.Int.{bit_at}
use Rattle.std.proofs.lemmas.Bool.{cases_lt, true≢false}
use Rattle.std.proofs.lemmas.List.{get_or_past}
use Rattle.std.proofs.lemmas.Slice.Eq.{bytes_eq-Decides}
use Rattle.ns_base.specs.declared.rows.MethodNo.{MethodNo}
use Rattle.app_model.specs.declared.rows.MethodRow.{MethodRow}
use Rattle.app_model.specs.Components.{ComponentParts}
use Rattle.app_model.specs.Words.{code_len}
use Rattle.call_reach.specs.Spread.{Has}
use Rattle.class_graph.proofs.Lists.{any_found}
use Rattle.flow_model.specs.Breaks.{Breaks, Candidate, IsBelow, IsEntered, class_initialiser, inherits, initialiser, initialises, is_callback_name, is_lock_ins, is_native, is_own_store, method_name, touches}
use Rattle.flow_model.specs.Breaks as breaks
use Rattle.flow_model.proofs.TestLaws.{some_below}
use Rattle.scope_facts.specs.LockCode.{is_other}
use Rattle.scope_facts.specs.Fields.{is_marked}
use Rattle.scope_check.specs.Surveys.{IsSurvey, SurveyParts}
use Rattle.scope_check.specs.Tests.{head_tests, is_entry, is_hosted, is_initialiser, is_unlisted}
use Rattle.scope_facts.proofs.BitLaws.{no_bit_told}
use Rattle.scope_facts.proofs.Entries.{there_callback}
use Rattle.scope_check.proofs.Known.{marked}
use Rattle.scope_check.proofs.Sound.{either, not_true, true_of}
use Rattle.scope_check.proofs.Steps.{not_false}
use Rattle.scope_facts.proofs.ThreadLaws.{and_true, both}
use Rattle.scope_check.proofs.Touching.{any_other}

pub has_within : (words : List ℕ) (n b : ℕ) → Has words n b → n < length words
has_within words n b h = ⊎_elim (λ lt. lt) (λ past. absurd (no_bit_told b (subst (λ (w : ℕ). bit_at w b ≡ 1) (get_or_past words n 0 past) h))) (cases_lt n (length words))

module _ (s : SurveyParts) (inv : IsSurvey s) (m : ℕ) (low : m < length s.case.app.methods) where
  abbrev x : Candidate
  x = s.case

  unentered : not (is_marked s.reached m) ≡ true → ¬ IsEntered x m
  unentered is reached = true≢false (sym (marked s inv m reached) ∙ not_false _ is)

  -- what the words of the reach say
  locks_below : bit_at (slice_index s.below m) 0 ≡ 1 → (n : ℕ) × (i : ℕ) × IsBelow x m n × (is_lock_ins x.app n i ≡ true)
  locks_below bit =
      let there = (inv.below.exact m 0 low (omega arith)).0 bit in
      let own_low : there.0 < length x.app.methods = (let h = has_within s.own there.0 0 there.2 in omega (arith, h, inv.own.len)) in
      let at = some_below (is_lock_ins x.app there.0) (code_len x.app there.0) ((inv.own.each there.0 own_low).locks.0 there.2) in
      (there.0, at.0, there.1, at.2)

  touches_below : bit_at (slice_index s.below m) 1 ≡ 1 → (n : ℕ) × (i : ℕ) × IsBelow x m n × (touches x.app n i ≡ true)
  touches_below bit =
      let there = (inv.below.exact m 1 low (omega arith)).0 bit in
      let own_low : there.0 < length x.app.methods = (let h = has_within s.own there.0 1 there.2 in omega (arith, h, inv.own.len)) in
      let any = (inv.own.each there.0 own_low).others.0 there.2 in
      let at = some_below (is_other x.app there.0) (code_len x.app there.0) any in
      (there.0, at.0, there.1, and_true (is_lock_ins x.app there.0 at.0) (not (initialises x.app there.0)) (both (is_lock_ins x.app there.0 at.0) (not (is_own_store x.app there.0 at.0)) at.2).0 (any_other x.app there.0 ∙ any))

  entry_found : is_native x.app m ≡ true → is_entry s.entries m ≡ true → Breaks x 1 m 0
  entry_found native is =
      let f = any_found (λ (entry : MethodNo). entry.0 == m) s.entries is in
      let back = there_callback x.list f.0 (subst (λ (entries : List MethodNo). Contains entries f.0) inv.entries f.1) in
      breaks.native_entry back.0 back.1 (back.2 ∙ ap Some (eqb-true f.0.0 m f.2)) native

  unlisted_found : is_unlisted s m ≡ true → Breaks x 9 m 0
  unlisted_found is =
      let b = both _ _ is in
      let d = both _ _ b.1 in
      let at = locks_below (eqb-true _ 1 d.1) in
      breaks.unlisted at.0 at.1 (unentered b.0) d.0 at.2 at.3

  hosted_found : (row : Option MethodRow) → slice_get x.app.methods m ≡ row → is_hosted x.app x.list row ≡ true → (method : MethodRow) × (component : ComponentParts) × (slice_get x.app.methods m ≡ Some method) × Contains x.list component × (inherits x.app component.class method.class ≡ true)
  hosted_found None there is = absurd (true≢false (sym is))
  hosted_found (Some method) there is = let f = any_found (λ (component : ComponentParts). inherits x.app component.class method.class) x.list is in (method, f.0, there, f.1, f.2)

  init_found : (n i : ℕ) → IsBelow x m n → touches x.app n i ≡ true → is_initialiser s m ≡ true → Breaks x 10 m 0
  init_found n i below touch is = ⊎_elim
      (λ clinit. breaks.class_init_touches n i ((bytes_eq-Decides (method_name x.app m) class_initialiser).0 clinit) below touch)
      (λ other. (let b = both _ _ other in
      let d = both _ _ b.1 in
      let h = hosted_found (slice_get x.app.methods m) refl d.1 in
      breaks.init_touches n i (unentered d.0) ((bytes_eq-Decides (method_name x.app m) initialiser).0 b.0) h.2 h.3 h.4 below touch))
      (either _ _ is)

  pub heads_sound : (rule : ℕ) → slice_get (head_tests s m) rule ≡ Some true → Breaks x rule m 0
  heads_sound zero is = absurd (not_true is)
  heads_sound (suc zero) is = let b = both _ _ (true_of _ is) in entry_found b.0 b.1
  heads_sound (suc (suc zero)) is = absurd (not_true is)
  heads_sound (suc (suc (suc zero))) is = absurd (not_true is)
  heads_sound (suc (suc (suc (suc zero)))) is = absurd (not_true is)
  heads_sound (suc (suc (suc (suc (suc zero))))) is = absurd (not_true is)
  heads_sound (suc (suc (suc (suc (suc (suc zero)))))) is = absurd (not_true is)
  heads_sound (suc (suc (suc (suc (suc (suc (suc zero))))))) is = absurd (not_true is)
  heads_sound (suc (suc (suc (suc (suc (suc (suc (suc zero)))))))) is = absurd (not_true is)
  heads_sound (suc (suc (suc (suc (suc (suc (suc (suc (suc zero))))))))) is = unlisted_found (true_of _ is)
  heads_sound (suc (suc (suc (suc (suc (suc (suc (suc (suc (suc zero)))))))))) is =
      let b = both _ _ (true_of _ is) in let at = touches_below (eqb-true _ 1 b.0) in init_found at.0 at.1 at.2 at.3 b.1
  heads_sound (suc (suc (suc (suc (suc (suc (suc (suc (suc (suc (suc n))))))))))) is = cc
