-- Where a test is passed its rule is broken.
use Rattle.std.proofs.Common.{◌≡◌, ◌≢◌, ℕ, zero, suc, ◌||◌, Bool, true, false, refl, sym, ◌∙◌, subst, ⊎_elim, inl, inr, Option, Some, None, slice_get}
use Rattle.std.specs.Prelude.{◌⊎◌}
use Rattle.std.proofs.lemmas.Bool.{true≢false}
use Rattle.ns_base.specs.declared.rows.MethodNo.{MethodNo}
use Rattle.app_model.specs.declared.rows.FieldRow.{FieldRow}
use Rattle.app_model.specs.CallGraph.{callees_at}
use Rattle.app_model.specs.Masks.{in_lock_mask}
use Rattle.app_model.specs.Slots.{slot_at}
use Rattle.app_model.specs.Words.{ins_at, pc_at}
use Rattle.class_graph.proofs.Lists.{any_found}
use Rattle.flow_model.specs.Breaks.{Breaks, Candidate, IsAccess, IsEntered, IsMade, field_of_lock, is_native, is_static_access, is_static_field, is_thread, is_type_below, loads_code, made_type, owner_count, passes_named}
use Rattle.flow_model.specs.Breaks as breaks
use Rattle.flow_model.proofs.Slots.{slot_below}
use Rattle.scope_check.specs.Surveys.{IsSurvey, SurveyParts}
use Rattle.scope_check.specs.Tests.{calls_native, differ, is_unfit, makes_thread, reached_tests}
use Rattle.scope_check.proofs.Known.{entered, in_mask_told, lock_field, static_known}

pub either : (a b : Bool) → (a || b) ≡ true → (a ≡ true) ⊎ (b ≡ true)
either true b is = inl refl
either false b is = inr is

pub true_of : (b : Bool) → ◌≡◌ {A = Option Bool} (Some b) (Some true) → b ≡ true
true_of true is = refl
true_of false is = cc

pub not_true : ◌≡◌ {A = Option Bool} (Some false) (Some true) → ⊥
not_true is = let no : ◌≡◌ {A = Bool} false true = true_of false is in true≢false (sym no)

different : (a b : Bool) → differ a b ≡ true → a ≢ b
different true true is same = true≢false (sym is)
different true false is same = true≢false same
different false true is same = true≢false (sym same)
different false false is same = true≢false (sym is)

module _ (s : SurveyParts) (inv : IsSurvey s) (m i pc : ℕ) (reached : IsEntered s.case m) (at : pc_at s.case.app m i ≡ Some pc) where
  abbrev x : Candidate
  x = s.case

  native_found : calls_native x m i ≡ true → Breaks x 1 m pc
  native_found is = let f = any_found (λ (n : MethodNo). is_native x.app n.0) (callees_at x.graph m i) is in breaks.native_call i f.0 reached at f.1 f.2

  thread_made_found : (made : Option ℕ) → made_type (ins_at x.app m i) ≡ made → makes_thread x.app made ≡ true → Breaks x 3 m pc
  thread_made_found None there is = absurd (true≢false (sym is))
  thread_made_found (Some t) there is = breaks.thread_made i t reached at there is

  faulty_found : (l : ℕ) → slot_at x.app m i ≡ Some l → in_lock_mask s.faulty l ≡ true → Breaks x 7 m pc
  faulty_found l slot is =
      let told = in_mask_told s.faulty l is in
      let bad = (inv.faulty l told.0).0 told.1 in
      let access : IsAccess x m i l bad.0 = record { reached = reached; slot = slot; is = bad.1 } in
      ⊎_elim
      (λ other. breaks.unowned i at access bad.2 other)
      (λ made. (let by = in_mask_told inv.made l made in
      let maker = (inv.makes l by.0).0 by.1 in
      let low = maker.2.1.2.2.1 in
      let same : ◌≡◌ {A = FieldRow} maker.2.1.2.2.0 bad.0 = (let e : ◌≡◌ {A = Option FieldRow} (Some maker.2.1.2.2.0) (Some bad.0) = sym low ∙ bad.1 in cc) in
      breaks.made_by_hand i at access bad.2 (record {
        method = maker.0;
        index = maker.2.1.0;
        kind = maker.2.1.2.0;
        reached = entered s inv maker.0 maker.2.0;
        makes = maker.2.1.2.1;
        below = subst (λ (field : FieldRow). is_type_below x.app maker.2.1.2.0 (slice_get x.app.classes field.class.0) ≡ true) same maker.2.1.2.2.2;
      })))
      bad.3

  unfit_found : (l : ℕ) → slot_at x.app m i ≡ Some l → differ (is_static_access (ins_at x.app m i)) (in_lock_mask s.statics l) ≡ true → Breaks x 7 m pc
  unfit_found l slot is =
      let field = lock_field x.app inv.case.sound l (slot_below x.app m i l slot) in
      breaks.unfit_access i at (record { reached = reached; slot = slot; is = field.1 }) (λ same. different _ _ is (same ∙ static_known s inv inv.case.sound l field.0 field.1))

  unfit_by : (slot : Option ℕ) → slot_at x.app m i ≡ slot → is_unfit s.faulty s.statics (ins_at x.app m i) slot ≡ true → Breaks x 7 m pc
  unfit_by None there is = absurd (true≢false (sym is))
  unfit_by (Some l) there is = ⊎_elim (faulty_found l there) (unfit_found l there) (either _ _ is)

  pub reached_sound : (rule : ℕ) → slice_get (reached_tests s m i) rule ≡ Some true → Breaks x rule m pc
  reached_sound zero is = absurd (not_true is)
  reached_sound (suc zero) is = ⊎_elim native_found (λ loads. breaks.loads i reached at loads) (either _ _ (true_of _ is))
  reached_sound (suc (suc zero)) is = breaks.reflective_call i reached at (true_of _ is)
  reached_sound (suc (suc (suc zero))) is = ⊎_elim (thread_made_found _ refl) (λ call. breaks.thread_call i reached at call) (either _ _ (true_of _ is))
  reached_sound (suc (suc (suc (suc zero)))) is = breaks.escape i reached at (true_of _ is)
  reached_sound (suc (suc (suc (suc (suc zero))))) is = breaks.wrong_call i reached at (true_of _ is)
  reached_sound (suc (suc (suc (suc (suc (suc zero)))))) is = absurd (not_true is)
  reached_sound (suc (suc (suc (suc (suc (suc (suc zero))))))) is = unfit_by _ refl (true_of _ is)
  reached_sound (suc (suc (suc (suc (suc (suc (suc (suc n)))))))) is = cc
