-- What the pass keeps, step by step.
use Rattle.std.proofs.Common.{◌≡◌, ◌≢◌, ℕ, zero, suc, ◌+◌, ◌<◌, ◌≤◌, ◌&&◌, ◌∷◌, [], Bool, true, false, not, List, refl, sym, ap, ◌∙◌, subst, ⊎_elim, inl, inr, arith, bytes_eq, Option, Some, None, slice_get}
use Rattle.std.specs.Prelude.{◌⊎◌, ◌↔◌}
use Rattle.std.specs.Int.{bit_at}
use Rattle.std.proofs.lemmas.Bool.{cases_lt, true≢false}
use Rattle.std.proofs.lemmas.Slice.Eq.{bytes_eq-Decides}
use Rattle.app_model.specs.TagTable.{row_at}
use Rattle.app_model.specs.Words.{code_len, pc_at}
use Rattle.app_model.specs.declared.tag.Tag.{Tag}
use Rattle.act_model.specs.declared.act.Act.{Act}
use Rattle.act_model.specs.Acts.{act_at}
use Rattle.flow_model.specs.Breaks.{Breaks, Candidate, IsEarlier, IsEntered, StoresNew, class_initialiser, initialises, is_lock_ins, method_name, second_store, unreached}
use Rattle.flow_model.specs.Scope.{stores_new}
use Rattle.scope_check.specs.declared.found.Found.{Found}
use Rattle.scope_check.specs.declared.pass.Pass.{Pass}
use Rattle.scope_check.specs.Founds.{Covers, IsFound, Keeps}
use Rattle.scope_check.specs.Passing.{IsPass, StoredBefore, has_stored}
use Rattle.scope_facts.specs.Fields.{is_marked}
use Rattle.scope_check.specs.Surveys.{IsSurvey, SurveyParts}
use Rattle.scope_check.specs.Tests.{head_tests, may_not_touch, reached_tests, tests_at, unreached_tests}
use Rattle.scope_facts.proofs.BitLaws.{no_bit_told}
use Rattle.scope_check.proofs.Known.{entered, in_mask_told, marked, store_code, store_within, told_in_mask}
use Rattle.scope_check.proofs.Sound.{not_true, reached_sound, true_of}
use Rattle.scope_facts.proofs.ThreadLaws.{and_true, both}
use Rattle.scope_check.proofs.Within.{pc_within}

-- ---- order
earlier_next : (n j m i : ℕ) → IsEarlier n j m (i + 1) → IsEarlier n j m i ⊎ ((n ≡ m) × (j ≡ i))
earlier_next n j m i e = ⊎_elim (λ lt. inl (inl lt)) (λ same. ⊎_elim (λ less. inl (inr (same.0, less))) (λ le. inr (same.0, omega (arith, le, same.1))) (cases_lt j i)) e

earlier_on : (n j m i : ℕ) → IsEarlier n j m i → IsEarlier n j m (i + 1)
earlier_on n j m i e = ⊎_elim inl (λ same. inr (same.0, omega (arith, same.1))) e

earlier_here : (m i : ℕ) → IsEarlier m i m (i + 1)
earlier_here m i = inr (refl, omega arith)

-- what holds there holds at the same place
moved : (P : (n j : ℕ) → Type 0) (n j m i : ℕ) → (n ≡ m) × (j ≡ i) → P n j → P m i
moved P n j m i here p = subst (λ (k : ℕ). P k i) here.0 (subst (P n) here.1 p)

moved_pc : (x : Candidate) (n j m i pc p : ℕ) → (n ≡ m) × (j ≡ i) → pc_at x.app m i ≡ Some pc → pc_at x.app n j ≡ Some p → pc ≡ p
moved_pc x n j m i pc p here at there = let e : ◌≡◌ {A = Option ℕ} (Some pc) (Some p) = sym at ∙ moved (λ (a b : ℕ). pc_at x.app a b ≡ Some p) n j m i here there in cc

back_covers : (kept : Option Found) (r n j m i pc p : ℕ) → (n ≡ m) × (j ≡ i) → pc ≡ p → Covers kept r m pc → Covers kept r n p
back_covers kept r n j m i pc p here same covers = subst (Covers kept r n) same (subst (λ (k : ℕ). Covers kept r k pc) (sym here.0) covers)

-- what an act stores, by the act and the row that are read
pub stored_told : (x : Candidate) (m i : ℕ) (act : Act) (row : List Tag) (fresh : Option ℕ) → act_at x.app m i ≡ Some act → row ≡ row_at x.tags m i → ((l : ℕ) → (stores_new l (Some act) row ≡ true) ↔ (fresh ≡ Some l))
    → (l : ℕ) → (stores_new l (act_at x.app m i) (row_at x.tags m i) ≡ true) ↔ (fresh ≡ Some l)
stored_told x m i act row fresh is row_is told l =
    subst (λ (one : Option Act). (stores_new l one (row_at x.tags m i) ≡ true) ↔ (fresh ≡ Some l)) (sym is) (subst (λ (tags : List Tag). (stores_new l (Some act) tags ≡ true) ↔ (fresh ≡ Some l)) row_is (told l))

-- ---- one more place
abbrev IsSound : Candidate → Option Found → Type 0
IsSound x kept = (rule n pc : ℕ) → IsFound kept rule n pc → Breaks x rule n pc

pub keeps_sound : (x : Candidate) (tests : List Bool) (m pc : ℕ) (old new : Option Found) → Keeps tests m pc old new → IsSound x old → ((rule : ℕ) → slice_get tests rule ≡ Some true → Breaks x rule m pc) → IsSound x new
keeps_sound x tests m pc old new keeps before this rule n p found = ⊎_elim
    (λ same. before rule n p (found.0, sym same ∙ found.1, found.2, found.3, found.4))
    (λ here. (let h = here.2 in
    let one : ◌≡◌ {A = Found} h.0 found.0 = (let e : ◌≡◌ {A = Option Found} (Some h.0) (Some found.0) = sym h.1 ∙ found.1 in cc) in
    let r : here.0 ≡ rule = sym h.2 ∙ ap (λ (f : Found). f.rule) one ∙ found.2 in
    let at_m : m ≡ n = sym h.3 ∙ ap (λ (f : Found). f.method.0) one ∙ found.3 in
    let at_pc : pc ≡ p = sym h.4 ∙ ap (λ (f : Found). f.pc) one ∙ found.4 in
    subst (λ (k : ℕ). Breaks x rule n k) at_pc (subst (λ (k : ℕ). Breaks x rule k pc) at_m (subst (λ (k : ℕ). Breaks x k m pc) r (this here.0 here.1)))))
    keeps.from

pub reached_at : (s : SurveyParts) (m i : ℕ) → is_marked s.reached m ≡ true → tests_at s m i ≡ reached_tests s m i
reached_at s m i is = rw is refl

pub unreached_at : (s : SurveyParts) (m i : ℕ) → is_marked s.reached m ≡ false → tests_at s m i ≡ unreached_tests s m i
unreached_at s m i is = rw is refl

abbrev pub past_tests : Bool → List Bool
past_tests touches = false ∷ false ∷ false ∷ false ∷ false ∷ false ∷ false ∷ false ∷ touches ∷ []

pub not_false : (b : Bool) → not b ≡ true → b ≡ false
not_false true is = sym is
not_false false is = refl

and_one : (b : Bool) → (b && true) ≡ b
and_one true = refl
and_one false = refl

not_named : (s : SurveyParts) (m : ℕ) → may_not_touch s.case.app m ≡ true → method_name s.case.app m ≢ class_initialiser
not_named s m may same = let b = both (not (bytes_eq (method_name s.case.app m) class_initialiser)) (not (initialises s.case.app m)) may in true≢false (sym ((bytes_eq-Decides (method_name s.case.app m) class_initialiser).1 same) ∙ not_false _ b.0)

not_initialises : (s : SurveyParts) (m : ℕ) → may_not_touch s.case.app m ≡ true → initialises s.case.app m ≡ false
not_initialises s m may = not_false _ (both (not (bytes_eq (method_name s.case.app m) class_initialiser)) (not (initialises s.case.app m)) may).1

abbrev pub second_tests : Bool → List Bool
second_tests again = false ∷ false ∷ false ∷ false ∷ false ∷ false ∷ again ∷ []

module _ (s : SurveyParts) (inv : IsSurvey s) (heads m i : ℕ) (old : Pass) (before : IsPass s heads m i old) (pc : ℕ) (at : pc_at s.case.app m i ≡ Some pc) where
  abbrev x : Candidate
  x = s.case

  module _ (is : is_marked s.reached m ≡ true) (first second : Option Found) (fresh : Option ℕ) (stored : ℕ)
      (new : (l : ℕ) → (stores_new l (act_at s.case.app m i) (row_at s.case.tags m i) ≡ true) ↔ (fresh ≡ Some l)) where
    abbrev reached : IsEntered x m
    reached = entered s inv m is

    stores_here : (l : ℕ) → StoresNew x l m i → fresh ≡ Some l
    stores_here l st = (new l).0 st.stores

    here_stores : (l : ℕ) → fresh ≡ Some l → StoresNew x l m i
    here_stores l is = record { reached = reached; stores = (new l).1 is }

    again_stored : (l : ℕ) → fresh ≡ Some l → StoredBefore x m i l → has_stored old.stored fresh ≡ true
    again_stored l is st =
        let low = store_within x.app inv.case.sound l m i (row_at x.tags m i) ((new l).1 is) in
        rw is (told_in_mask old.stored l low ((before.stored l low).1 st))

    stored_again : (fresh_is : Option ℕ) → fresh ≡ fresh_is → has_stored old.stored fresh_is ≡ true → Breaks x 6 m pc
    stored_again None there is = absurd (true≢false (sym is))
    stored_again (Some l) there is =
        let told = in_mask_told old.stored l is in
        let st = (before.stored l told.0).0 told.1 in
        second_store i l st.0 st.1 at (here_stores l there) st.2 st.3

    second_sound : (rule : ℕ) → slice_get (second_tests (has_stored old.stored fresh)) rule ≡ Some true → Breaks x rule m pc
    second_sound zero is = absurd (not_true is)
    second_sound (suc zero) is = absurd (not_true is)
    second_sound (suc (suc zero)) is = absurd (not_true is)
    second_sound (suc (suc (suc zero))) is = absurd (not_true is)
    second_sound (suc (suc (suc (suc zero)))) is = absurd (not_true is)
    second_sound (suc (suc (suc (suc (suc zero))))) is = absurd (not_true is)
    second_sound (suc (suc (suc (suc (suc (suc zero)))))) is = stored_again fresh refl (true_of _ is)
    second_sound (suc (suc (suc (suc (suc (suc (suc n))))))) is = cc

    pub look_step : Keeps (reached_tests s m i) m pc old.kept first → Keeps (second_tests (has_stored old.stored fresh)) m pc first second
        → ((l : ℕ) → l < 64 → (bit_at stored l ≡ 1) ↔ ((bit_at old.stored l ≡ 1) ⊎ (fresh ≡ Some l))) → IsPass s heads m (i + 1) (record { kept = second; stored = stored })
    look_step one two more = record {
      sound = keeps_sound x (second_tests (has_stored old.stored fresh)) m pc first second two (keeps_sound x (reached_tests s m i) m pc old.kept first one before.sound (reached_sound s inv m i pc reached at)) second_sound;
      tests = λ n j r p earlier there passed. ⊎_elim
          (λ old_place. two.on r n p (one.on r n p (before.tests n j r p old_place there passed)))
          (λ here. (let test = subst (λ (tests : List Bool). slice_get tests r ≡ Some true) (reached_at s m i is) (moved (λ (a b : ℕ). slice_get (tests_at s a b) r ≡ Some true) n j m i here passed) in
          back_covers second r n j m i pc p here (moved_pc x n j m i pc p here at there) (two.on r m pc (one.covers r test))))
          (earlier_next n j m i earlier);
      seconds = λ l n j k e p earlier there st older first_place. ⊎_elim
          (λ old_place. two.on 6 n p (one.on 6 n p (before.seconds l n j k e p old_place there st older first_place)))
          (λ here. (let again = again_stored l (stores_here l (moved (StoresNew x l) n j m i here st)) (k, e, older, moved (IsEarlier k e) n j m i here first_place) in
          back_covers second 6 n j m i pc p here (moved_pc x n j m i pc p here at there) (two.covers 6 (ap Some again))))
          (earlier_next n j m i earlier);
      whole = λ n r low passed. two.on r n 0 (one.on r n 0 (before.whole n r low passed));
      stored = λ l low. (
        λ bit. ⊎_elim (λ b. (let st = (before.stored l low).0 b in (st.0, st.1, st.2, earlier_on st.0 st.1 m i st.3))) (λ f. (m, i, here_stores l f, earlier_here m i)) ((more l low).0 bit),
        λ st. ⊎_elim
            (λ old_place. (more l low).1 (inl ((before.stored l low).1 (st.0, st.1, st.2, old_place))))
            (λ here. (more l low).1 (inr (stores_here l (moved (StoresNew x l) st.0 st.1 m i here st.2))))
            (earlier_next st.0 st.1 m i st.3),
      );
    }

  -- an instruction of a method that is not reached
  module _ (is : is_marked s.reached m ≡ false) where
    unentered : ¬ IsEntered x m
    unentered reached = true≢false (sym (marked s inv m reached) ∙ is)

    past_sound : (named : method_name x.app m ≢ class_initialiser) (touching : initialises x.app m ≡ false) (rule : ℕ) → slice_get (past_tests (is_lock_ins x.app m i)) rule ≡ Some true → Breaks x rule m pc
    past_sound named touching zero passed = absurd (not_true passed)
    past_sound named touching (suc zero) passed = absurd (not_true passed)
    past_sound named touching (suc (suc zero)) passed = absurd (not_true passed)
    past_sound named touching (suc (suc (suc zero))) passed = absurd (not_true passed)
    past_sound named touching (suc (suc (suc (suc zero)))) passed = absurd (not_true passed)
    past_sound named touching (suc (suc (suc (suc (suc zero))))) passed = absurd (not_true passed)
    past_sound named touching (suc (suc (suc (suc (suc (suc zero)))))) passed = absurd (not_true passed)
    past_sound named touching (suc (suc (suc (suc (suc (suc (suc zero))))))) passed = absurd (not_true passed)
    past_sound named touching (suc (suc (suc (suc (suc (suc (suc (suc zero)))))))) passed =
        unreached i unentered named at (and_true _ _ (true_of _ passed) (rw touching refl))
    past_sound named touching (suc (suc (suc (suc (suc (suc (suc (suc (suc n))))))))) passed = cc

    -- the tests of such an instruction
    past_at : may_not_touch x.app m ≡ true → unreached_tests s m i ≡ past_tests (is_lock_ins x.app m i)
    past_at may = let b = both (not (bytes_eq (method_name x.app m) class_initialiser)) (not (initialises x.app m)) may in ap past_tests (rw (b.0, b.1) (and_one (is_lock_ins x.app m i)))

    none_stored : (l : ℕ) → StoresNew x l m i → ⊥
    none_stored l st = unentered st.reached

    pub past_step : (new : Option Found) → may_not_touch x.app m ≡ true → Keeps (past_tests (is_lock_ins x.app m i)) m pc old.kept new → IsPass s heads m (i + 1) (record { kept = new; stored = old.stored })
    past_step new may keeps = record {
      sound = keeps_sound x (past_tests (is_lock_ins x.app m i)) m pc old.kept new keeps before.sound (past_sound (not_named s m may) (not_initialises s m may));
      tests = λ n j r p earlier there passed. ⊎_elim
          (λ old_place. keeps.on r n p (before.tests n j r p old_place there passed))
          (λ here. (let test = subst (λ (tests : List Bool). slice_get tests r ≡ Some true) (unreached_at s m i is ∙ past_at may) (moved (λ (a b : ℕ). slice_get (tests_at s a b) r ≡ Some true) n j m i here passed) in
          back_covers new r n j m i pc p here (moved_pc x n j m i pc p here at there) (keeps.covers r test)))
          (earlier_next n j m i earlier);
      seconds = λ l n j k e p earlier there st older first_place. ⊎_elim
          (λ old_place. keeps.on 6 n p (before.seconds l n j k e p old_place there st older first_place))
          (λ here. absurd (none_stored l (moved (StoresNew x l) n j m i here st)))
          (earlier_next n j m i earlier);
      whole = λ n r low passed. keeps.on r n 0 (before.whole n r low passed);
      stored = λ l low. (
        λ bit. (let st = (before.stored l low).0 bit in (st.0, st.1, st.2, earlier_on st.0 st.1 m i st.3)),
        λ st. ⊎_elim (λ old_place. (before.stored l low).1 (st.0, st.1, st.2, old_place)) (λ here. absurd (none_stored l (moved (StoresNew x l) st.0 st.1 m i here st.2))) (earlier_next st.0 st.1 m i st.3),
      );
    }

-- ---- from a method to the next
-- no instruction of method m is left
module _ (s : SurveyParts) (inv : IsSurvey s) (heads m i : ℕ) (pass : Pass) (before : IsPass s heads m i pass) where
  earlier_method : (n j k : ℕ) → IsEarlier n j (m + 1) k → k ≡ 0 → (n < m) ⊎ (n ≡ m)
  earlier_method n j k e zero_place = ⊎_elim (λ lt. ⊎_elim inl (λ le. inr (omega (arith, lt, le))) (cases_lt n m)) (λ same. absurd (omega (arith, same.1, zero_place))) e

  -- what is left of it breaks no rule
  pub next_method : ((j p r : ℕ) → i ≤ j → pc_at s.case.app m j ≡ Some p → slice_get (tests_at s m j) r ≢ Some true) → ((j l : ℕ) → i ≤ j → ¬ StoresNew s.case l m j) → IsPass s heads (m + 1) 0 pass
  next_method quiet stores = record {
    sound = before.sound;
    tests = λ n j r p earlier there passed. ⊎_elim
        (λ lt. before.tests n j r p (inl lt) there passed)
        (λ same. ⊎_elim (λ less. before.tests n j r p (inr (same, less)) there passed)
        (λ le. absurd (quiet j p r le (subst (λ (k : ℕ). pc_at s.case.app k j ≡ Some p) same there) (subst (λ (k : ℕ). slice_get (tests_at s k j) r ≡ Some true) same passed))) (cases_lt j i))
        (earlier_method n j 0 earlier refl);
    seconds = λ l n j k e p earlier there st older first_place. ⊎_elim
        (λ lt. before.seconds l n j k e p (inl lt) there st older first_place)
        (λ same. ⊎_elim (λ less. before.seconds l n j k e p (inr (same, less)) there st older first_place)
        (λ le. absurd (stores j l le (subst (λ (k : ℕ). StoresNew s.case l k j) same st))) (cases_lt j i))
        (earlier_method n j 0 earlier refl);
    whole = before.whole;
    stored = λ l low. (
      λ bit. (let st = (before.stored l low).0 bit in (st.0, st.1, st.2, ⊎_elim (λ lt. inl (omega (arith, lt))) (λ same. inl (omega (arith, same.0))) st.3)),
      λ st. ⊎_elim
          (λ lt. (before.stored l low).1 (st.0, st.1, st.2, inl lt))
          (λ same. ⊎_elim (λ less. (before.stored l low).1 (st.0, st.1, st.2, inr (same, less))) (λ le. absurd (stores st.1 l le (subst (λ (k : ℕ). StoresNew s.case l k st.1) same st.2))) (cases_lt st.1 i))
          (earlier_method st.0 st.1 0 st.3 refl),
    );
  }

  -- none is left
  pub method_done : code_len s.case.app m ≤ i → IsPass s heads (m + 1) 0 pass
  method_done whole = next_method
      (λ j p r le there passed. (let low = pc_within s.case.app m j p there in omega (arith, le, low, whole)))
      (λ j l le st. (let low = store_code s.case.app m j l (row_at s.case.tags m j) st.stores in omega (arith, le, low, whole)))

  -- a method that is not reached, and may touch locks, or does not
  pub method_passed : is_marked s.reached m ≡ false → may_not_touch s.case.app m ≡ false → IsPass s heads (m + 1) 0 pass
  method_passed is may = next_method
      (λ j p r le there passed. quiet_tests j r (subst (λ (tests : List Bool). slice_get tests r ≡ Some true) (unreached_at s m j is) passed))
      (λ j l le st. true≢false (sym (marked s inv m st.reached) ∙ is))
    where
      quiet : (a b c : Bool) → (a && c) ≡ false → (a && (b && c)) ≡ false
      quiet true b true none = absurd (true≢false none)
      quiet true true false none = refl
      quiet true false false none = refl
      quiet false b c none = refl

      quiet_tests : (j r : ℕ) → slice_get (unreached_tests s m j) r ≢ Some true
      quiet_tests j zero passed = not_true passed
      quiet_tests j (suc zero) passed = not_true passed
      quiet_tests j (suc (suc zero)) passed = not_true passed
      quiet_tests j (suc (suc (suc zero))) passed = not_true passed
      quiet_tests j (suc (suc (suc (suc zero)))) passed = not_true passed
      quiet_tests j (suc (suc (suc (suc (suc zero))))) passed = not_true passed
      quiet_tests j (suc (suc (suc (suc (suc (suc zero)))))) passed = not_true passed
      quiet_tests j (suc (suc (suc (suc (suc (suc (suc zero))))))) passed = not_true passed
      quiet_tests j (suc (suc (suc (suc (suc (suc (suc (suc zero)))))))) passed = true≢false (sym (true_of _ passed) ∙ quiet _ (is_lock_ins s.case.app m j) _ may)
      quiet_tests j (suc (suc (suc (suc (suc (suc (suc (suc (suc n))))))))) passed = cc

-- ---- a method as a whole
pub head_step : (s : SurveyParts) (m : ℕ) (old : Pass) (new : Option Found) → IsPass s m m 0 old → Keeps (head_tests s m) m 0 old.kept new → ((rule : ℕ) → slice_get (head_tests s m) rule ≡ Some true → Breaks s.case rule m 0)
    → IsPass s (m + 1) m 0 (record { kept = new; stored = old.stored })
head_step s m old new before keeps heads_sound = record {
  sound = keeps_sound s.case (head_tests s m) m 0 old.kept new keeps before.sound heads_sound;
  tests = λ n j r p earlier there passed. keeps.on r n p (before.tests n j r p earlier there passed);
  seconds = λ l n j k e p earlier there st older first_place. keeps.on 6 n p (before.seconds l n j k e p earlier there st older first_place);
  whole = λ n r low passed. ⊎_elim
      (λ less. keeps.on r n 0 (before.whole n r less passed))
      (λ le. (let same : m ≡ n = omega (arith, le, low) in subst (λ (k : ℕ). Covers new r k 0) same (keeps.covers r (subst (λ (k : ℕ). slice_get (head_tests s k) r ≡ Some true) (sym same) passed))))
      (cases_lt n m);
  stored = before.stored;
}

pub start : (s : SurveyParts) → IsPass s 0 0 0 (record { kept = None; stored = 0 })
start s = record {
  sound = λ rule n pc found. (let no : ◌≡◌ {A = Option Found} None (Some found.0) = found.1 in cc);
  tests = λ n j r p earlier there passed. absurd (nothing_earlier n j earlier);
  seconds = λ l n j k e p earlier there st older first_place. absurd (nothing_earlier n j earlier);
  whole = λ n r low passed. absurd (omega (arith, low));
  stored = λ l low. ((λ bit. absurd (no_bit_told l bit)), λ st. absurd (nothing_earlier st.0 st.1 st.3));
}
  where
    nothing_earlier : (n j : ℕ) → ¬ IsEarlier n j 0 0
    nothing_earlier n j e = ⊎_elim (λ lt. omega (arith, lt)) (λ same. omega (arith, same.1)) e
