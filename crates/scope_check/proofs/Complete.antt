-- Where a rule is broken its test is passed, so that what is kept at the end is the first break.
use Rattle.std.proofs.Common.{◌≡◌, ◌≢◌, ℕ, ◌<◌, ◌||◌, ◌==◌, [], Bool, true, false, not, List, length, refl, sym, ap, ◌∙◌, subst, inl, inr, arith, bytes_eq, Contains, Option, Some, None, slice_get, slice_index, eq-eqb}
use Rattle.std.specs.Int.{bit_at}
use Rattle.std.proofs.lemmas.Bool.{true≢false}
use Rattle.std.proofs.lemmas.Slice.Eq.{bytes_eq-Decides}
use Rattle.std.proofs.lemmas.Option.{slice_get_within}
use Rattle.ns_base.specs.declared.rows.MethodNo.{MethodNo}
use Rattle.app_model.specs.declared.rows.FieldRow.{FieldRow}
use Rattle.app_model.specs.CallGraph.{callees_at}
use Rattle.app_model.specs.Components.{ComponentParts}
use Rattle.app_model.specs.Masks.{in_lock_mask}
use Rattle.app_model.specs.Words.{code_len, ins_at, pc_at}
use Rattle.class_graph.proofs.Lists.{any_there}
use Rattle.flow_model.specs.Breaks.{Breaks, Candidate, IsAccess, IsBelow, IsEntered, IsMade, class_initialiser, inherits, initialiser, is_lock_ins, is_native, is_static_access, is_static_field, method_name, touches}
use Rattle.flow_model.specs.Breaks as breaks
use Rattle.flow_model.proofs.TestLaws.{below_some}
use Rattle.scope_check.specs.declared.found.Found.{Found}
use Rattle.scope_check.specs.declared.pass.Pass.{Pass}
use Rattle.scope_check.specs.Founds.{Covers, IsFound}
use Rattle.scope_check.specs.Passing.{IsFirst, IsPass}
use Rattle.scope_facts.specs.Fields.{is_marked}
use Rattle.scope_check.specs.Surveys.{IsSurvey, SurveyParts}
use Rattle.scope_check.specs.Tests.{differ, is_hosted, is_unfit, makes_thread, reached_tests, unreached_tests}
use Rattle.scope_facts.proofs.Entries.{callback_there}
use Rattle.scope_facts.proofs.FieldLaws.{field_below}
use Rattle.scope_check.proofs.Known.{entered, entered_within, marked, static_known, told_in_mask}
use Rattle.scope_check.proofs.Steps.{reached_at, unreached_at}
use Rattle.scope_facts.proofs.ThreadLaws.{and_true, both}
use Rattle.scope_check.proofs.Touching.{any_other}
use Rattle.scope_check.proofs.Within.{callback_named, code_within, lock_within, made_within, named_within, native_within, pc_within}

or_first : (a b : Bool) → a ≡ true → (a || b) ≡ true
or_first true b is = refl
or_first false b is = absurd (true≢false (sym is))

or_second : (a b : Bool) → b ≡ true → (a || b) ≡ true
or_second true b is = refl
or_second false b is = is

differs : (a b : Bool) → a ≢ b → differ a b ≡ true
differs true true ne = absurd (ne refl)
differs true false ne = refl
differs false true ne = refl
differs false false ne = absurd (ne refl)

unmarked : (s : SurveyParts) → IsSurvey s → (m : ℕ) → ¬ IsEntered s.case m → is_marked s.reached m ≡ false
unmarked s inv m none = go (is_marked s.reached m) refl
  where
    go : (b : Bool) → is_marked s.reached m ≡ b → b ≡ false
    go true is = absurd (none (entered s inv m is))
    go false is = refl

not_bytes : (a b : List ℕ) → a ≢ b → not (bytes_eq a b) ≡ true
not_bytes a b ne = go (bytes_eq a b) refl
  where
    go : (e : Bool) → bytes_eq a b ≡ e → not e ≡ true
    go true is = absurd (ne ((bytes_eq-Decides a b).0 is))
    go false is = refl

module _ (s : SurveyParts) (inv : IsSurvey s) (pass : Pass) (whole : IsPass s (length s.case.app.methods) (length s.case.app.methods) 0 pass) where
  abbrev x : Candidate
  x = s.case

  -- an instruction that is reached, one that is not, and a method as a whole
  at_reached : (rule m i pc : ℕ) → IsEntered x m → pc_at x.app m i ≡ Some pc → slice_get (reached_tests s m i) rule ≡ Some true → Covers pass.kept rule m pc
  at_reached rule m i pc reached at passed =
      whole.tests m i rule pc (inl (entered_within s inv.case m reached)) at (subst (λ (tests : List Bool). slice_get tests rule ≡ Some true) (sym (reached_at s m i (marked s inv m reached))) passed)

  at_unreached : (m i pc : ℕ) → ¬ IsEntered x m → method_name x.app m ≢ class_initialiser → pc_at x.app m i ≡ Some pc → touches x.app m i ≡ true → Covers pass.kept 8 m pc
  at_unreached m i pc none named at touch =
      let low = code_within x.app inv.case.sound m i (pc_within x.app m i pc at) in
      let passed : slice_get (unreached_tests s m i) 8 ≡ Some true = ap Some (and_true _ _ (not_bytes (method_name x.app m) class_initialiser named) touch) in
      whole.tests m i 8 pc (inl low) at (subst (λ (tests : List Bool). slice_get tests 8 ≡ Some true) (sym (unreached_at s m i (unmarked s inv m none))) passed)

  -- an access that is unfit
  at_access : (m i pc l : ℕ) (field : FieldRow) → pc_at x.app m i ≡ Some pc → IsAccess x m i l field → (in_lock_mask s.faulty l || differ (is_static_access (ins_at x.app m i)) (in_lock_mask s.statics l)) ≡ true → Covers pass.kept 7 m pc
  at_access m i pc l field at access bad =
      at_reached 7 m i pc access.reached at (ap Some (subst (λ (slot : Option ℕ). is_unfit s.faulty s.statics (ins_at x.app m i) slot ≡ true) (sym access.slot) bad))

  few : (l : ℕ) (field : FieldRow) → breaks.field_of_lock x.app l ≡ Some field → l < 64
  few l field is = let low = field_below x.app l field is in omega (arith, low, inv.case.sound.sizes.locks)

  made_bit : (l : ℕ) (field : FieldRow) → breaks.field_of_lock x.app l ≡ Some field → IsMade x field → in_lock_mask inv.made l ≡ true
  made_bit l field is made =
      told_in_mask inv.made l (few l field is) ((inv.makes l (few l field is)).1 (
        made.method,
        entered_within s inv.case made.method made.reached,
        (
          marked s inv made.method made.reached,
          (made.index, made_within x.app made.method made.index made.kind made.makes, (made.kind, made.makes, (field, is, made.below))),
        ),
      ))

  locks_bit : (m n i : ℕ) → m < length x.app.methods → IsBelow x m n → is_lock_ins x.app n i ≡ true → (bit_at (slice_index s.below m) 0 == 1) ≡ true
  locks_bit m n i low below lock =
      let at = lock_within x.app n i lock in
      let own = (inv.own.each n (code_within x.app inv.case.sound n i at)).locks.1 (below_some (is_lock_ins x.app n) (code_len x.app n) i at lock) in
      eq-eqb _ 1 ((inv.below.exact m 0 low (omega arith)).1 (n, below, own))

  others_bit : (m n i : ℕ) → m < length x.app.methods → IsBelow x m n → touches x.app n i ≡ true → (bit_at (slice_index s.below m) 1 == 1) ≡ true
  others_bit m n i low below touch =
      let b = both _ _ touch in
      let at = lock_within x.app n i b.0 in
      let own = (inv.own.each n (code_within x.app inv.case.sound n i at)).others.1 (sym (any_other x.app n) ∙ b.1) in
      eq-eqb _ 1 ((inv.below.exact m 1 low (omega arith)).1 (n, below, own))

  has_name : (m : ℕ) (name : List ℕ) → method_name x.app m ≡ name → name ≢ [] → m < length x.app.methods
  has_name m name is ne = named_within x.app m (λ empty. ne (sym is ∙ empty))

  covered : (rule m pc : ℕ) → Breaks x rule m pc → Covers pass.kept rule m pc
  covered rule m pc (breaks.native_entry c k at native) =
      let among = subst (λ (entries : List MethodNo). Contains entries (record { 0 = m })) (sym inv.entries) (callback_there x.list c k m at) in
      whole.whole m 1 (native_within x.app m native) (ap Some (and_true _ _ native (any_there (λ (entry : MethodNo). entry.0 == m) s.entries (record { 0 = m }) among (eq-eqb m m refl))))
  covered rule m pc (breaks.native_call i n reached at among native) =
      at_reached 1 m i pc reached at (ap Some (or_first _ _ (any_there (λ (n : MethodNo). is_native x.app n.0) (callees_at x.graph m i) n among native)))
  covered rule m pc (breaks.loads i reached at is) = at_reached 1 m i pc reached at (ap Some (or_second _ _ is))
  covered rule m pc (breaks.reflective_call i reached at is) = at_reached 2 m i pc reached at (ap Some is)
  covered rule m pc (breaks.thread_made i t reached at makes thread) = at_reached 3 m i pc reached at (ap Some (or_first _ _ (subst (λ (made : Option ℕ). makes_thread x.app made ≡ true) (sym makes) thread)))
  covered rule m pc (breaks.thread_call i reached at is) = at_reached 3 m i pc reached at (ap Some (or_second _ _ is))
  covered rule m pc (breaks.escape i reached at is) = at_reached 4 m i pc reached at (ap Some is)
  covered rule m pc (breaks.wrong_call i reached at is) = at_reached 5 m i pc reached at (ap Some is)
  covered rule m pc (breaks.second_store i l n j at here older earlier) = whole.seconds l m i n j pc (inl (entered_within s inv.case m here.reached)) at here older earlier
  covered rule m pc (breaks.unowned {l = l} {field = field} i at access instance other) =
      at_access m i pc l field at access (or_first _ _ (told_in_mask s.faulty l (few l field access.is) ((inv.faulty l (few l field access.is)).1 (field, access.is, instance, inl other))))
  covered rule m pc (breaks.made_by_hand {l = l} {field = field} i at access instance made) =
      at_access m i pc l field at access (or_first _ _ (told_in_mask s.faulty l (few l field access.is) ((inv.faulty l (few l field access.is)).1 (field, access.is, instance, inr (made_bit l field access.is made)))))
  covered rule m pc (breaks.unfit_access {l = l} {field = field} i at access unfit) =
      at_access m i pc l field at access (or_second _ _ (differs _ _ (λ same. unfit (same ∙ sym (static_known s inv inv.case.sound l field access.is)))))
  covered rule m pc (breaks.unreached i none named at touch) = at_unreached m i pc none named at touch
  covered rule m pc (breaks.unlisted n i none callback below lock) =
      let low = named_within x.app m (callback_named (method_name x.app m) callback) in
      whole.whole m 9 low (ap Some (and_true _ _ (ap not (unmarked s inv m none)) (and_true _ _ callback (locks_bit m n i low below lock))))
  covered rule m pc (breaks.class_init_touches n i named below touch) =
      let low = has_name m class_initialiser named (λ empty. (let no : length class_initialiser ≡ 0 = ap length empty in omega arith)) in
      whole.whole m 10 low (ap Some (and_true _ _ (others_bit m n i low below touch) (or_first _ _ ((bytes_eq-Decides (method_name x.app m) class_initialiser).1 named))))
  covered rule m pc (breaks.init_touches {method = method} {component = component} n i none named there among inherits_it below touch) =
      let low = slice_get_within x.app.methods m method there in
      let hosted : is_hosted x.app x.list (slice_get x.app.methods m) ≡ true = rw there (any_there (λ (c : ComponentParts). inherits x.app c.class method.class) x.list component among inherits_it) in
      whole.whole m 10 low (ap Some (and_true _ _ (others_bit m n i low below touch) (or_second _ _ (and_true _ _ ((bytes_eq-Decides (method_name x.app m) initialiser).1 named) (and_true _ _ (ap not (unmarked s inv m none)) hosted)))))

  pub first_of : IsFirst x pass.kept
  first_of = go pass.kept whole.sound covered
    where
      go : (kept : Option Found) → ((rule m pc : ℕ) → IsFound kept rule m pc → Breaks x rule m pc) → ((rule m pc : ℕ) → Breaks x rule m pc → Covers kept rule m pc) → IsFirst x kept
      go None sound covers = covers
      go (Some found) sound covers = record { broken = sound found.rule found.method.0 found.pc (found, refl, refl, refl, refl); first = covers }
