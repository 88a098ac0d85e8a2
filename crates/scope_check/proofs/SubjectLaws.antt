-- A survey that breaks no rule makes a subject in scope.
use Rattle.std.proofs.Common.{◌≡◌, ℕ, ◌<◌, ◌*◌, [], Bool, true, false, if◌then◌else◌, List, length, get_or, refl, sym, ap, ◌∙◌, subst, ⊎_elim, arith, Option, Some, None, slice_get, eqb-true, eq-eqb}
use Rattle.std.specs.Prelude.{◌↔◌}
use Rattle.std.proofs.lemmas.Bool.{cases_eq, true≢false}
use Rattle.std.proofs.lemmas.Option.{slice_get-get_or, slice_get_within}
use Rattle.ns_base.specs.declared.rows.ComponentNo.{ComponentNo}
use Rattle.ns_base.specs.declared.rows.MethodNo.{MethodNo}
use Rattle.app_model.specs.declared.rows.FieldRow.{FieldRow}
use Rattle.app_model.specs.Components.{ComponentParts, callback_at, entries_of, method_in, method_of}
use Rattle.app_model.specs.Masks.{in_lock_mask}
use Rattle.app_model.specs.Reach.{called, given}
use Rattle.app_model.specs.Subject.{AreReached, IsSubject, SubjectParts, answers_at, is_reached, owner_at, owner_of, slot_count}
use Rattle.app_model.specs.declared.component.Kind.TheVariants as kinds
use Rattle.app_model.specs.TagTable.{FitsReached, row_at, width_at}
use Rattle.app_model.specs.Words.{code_len}
use Rattle.class_graph.proofs.Lists.{same_test}
use Rattle.flow_model.specs.Breaks.{Breaks, Candidate, IsAccess, IsBelow, IsEntered, field_of_lock, is_native, is_native_row, is_static_field, may_own, owner_count}
use Rattle.flow_model.specs.Breaks as breaks
use Rattle.flow_model.specs.InScope.{AnswersFor, IsInScope, Owns}
use Rattle.scope_check.specs.Answering.{AreAnswers, AreOwners, RowHas, WordHas}
use Rattle.scope_check.specs.Surveys.{IsSurvey, SurveyParts}
use Rattle.scope_check.proofs.AnswerLaws.{acquire_code, one_only}
use Rattle.scope_check.proofs.Callees.{callback_concrete, callee_concrete, has_body}
use Rattle.scope_facts.proofs.Entries.{callback_below, callback_there, reached_on, there_callback}
use Rattle.scope_facts.proofs.FieldLaws.{field_below}
use Rattle.scope_check.proofs.Heads.{has_within}
use Rattle.scope_check.proofs.Known.{entered, entered_within, in_mask_told, marked, told_in_mask}
use Rattle.scope_check.proofs.Within.{access_within, call_within, code_pc}

abbrev made_of : SurveyParts → (answers : List ℕ) (owners : List (Option ComponentNo)) → SubjectParts
made_of s answers owners =
    record { app = s.case.app; graph = s.case.graph; list = s.case.list; tags = s.case.tags; reached = s.reached; answers = answers; owners = owners }

module _ (s : SurveyParts) (inv : IsSurvey s) (unbroken : (rule m pc : ℕ) → ¬ Breaks s.case rule m pc) (answers : List ℕ) (owners : List (Option ComponentNo)) (answer : AreAnswers s answers) (owned : AreOwners s owners) where
  abbrev x : Candidate
  x = s.case

  abbrev made : SubjectParts
  made = made_of s answers owners

  -- ---- reach
  reach_told : (m : ℕ) → (is_reached made m ≡ true) ↔ IsEntered x m
  unfolding is_reached
  reach_told m = (entered s inv m, marked s inv m)

  -- ---- answers
  row_answers : (c l : ℕ) (component : ComponentParts) → slice_get x.list c ≡ Some component → l < 64 → RowHas answer.0 component l → AnswersFor x c l
  unfolding callback_at
  row_answers c l component there few (k, low, (method, at, has)) = go method at has
    where
      go : (method : Option MethodNo) → slice_get component.methods k ≡ Some method → WordHas answer.0 method l → AnswersFor x c l
      go None at has = absurd has
      go (Some m) at has =
          let callback : callback_at x.list c k ≡ Some m.0 = rw (there, at) refl in
          let gathered = answer.1.2.exact m.0 l (callback_below x.app x.list c k m.0 inv.case.list callback) few in
          let by = gathered.0 has in
          let by_low : by.0 < length x.app.methods = (let h = has_within answer.1.0 by.0 l by.2 in omega (arith, h, answer.1.1.len)) in
          let acquired = (answer.1.1.each by.0 by_low l few).0 by.2 in
          record { callback = k; entry = m.0; method = by.0; index = acquired.1.0; there = callback; reached = by.1; acquires = acquired.1.2 }

  entry_entered : (c k m : ℕ) → callback_at x.list c k ≡ Some m → IsEntered x m
  entry_entered c k m there = given (record { 0 = m }) (callback_there x.list c k m there)

  method_there : (methods : List (Option MethodNo)) (k m : ℕ) → method_in (slice_get methods k) ≡ Some m → (method : MethodNo) × (slice_get methods k ≡ Some (Some method)) × (method.0 ≡ m)
  method_there methods k m is = go (slice_get methods k) refl is
    where
      go : (found : Option (Option MethodNo)) → slice_get methods k ≡ found → method_in found ≡ Some m → (method : MethodNo) × (slice_get methods k ≡ Some (Some method)) × (method.0 ≡ m)
      go None at none = cc
      go (Some None) at none = cc
      go (Some (Some method)) at some = (method, at, (let e : method.0 ≡ m = cc in e))

  answers_row : (c l : ℕ) (component : ComponentParts) → slice_get x.list c ≡ Some component → l < 64 → AnswersFor x c l → RowHas answer.0 component l
  unfolding callback_at
  answers_row c l component there few a =
      let in_row : method_in (slice_get component.methods a.callback) ≡ Some a.entry = subst (λ (row : Option ComponentParts). method_of row a.callback ≡ Some a.entry) there a.there in
      let m = method_there component.methods a.callback a.entry in_row in
      let reached = reached_on x.graph (entries_of x.list) a.entry a.method (entry_entered c a.callback a.entry a.there) a.reached in
      let own = (answer.1.1.each a.method (entered_within s inv.case a.method reached) l few).1 (marked s inv a.method reached, (a.index, acquire_code x.app a.method a.index l (row_at x.tags a.method a.index) a.acquires, a.acquires)) in
      let has = (answer.1.2.exact a.entry l (callback_below x.app x.list c a.callback a.entry inv.case.list a.there) few).1 (a.method, a.reached, own) in
      (a.callback, slice_get_within component.methods a.callback (Some m.0) m.1, (Some m.0, m.1, rw m.2 has))

  answers_told : (c l : ℕ) → c < length x.list → l < slot_count made → (answers_at made c l ≡ true) ↔ AnswersFor x c l
  unfolding answers_at slot_count
  answers_told c l low slot =
      let blank : ComponentParts = get_or x.list c (record { class = record { 0 = 0 }; kind = kinds.Runnable; exits = 0; methods = [] }) in
      let there = slice_get-get_or x.list c (record { class = record { 0 = 0 }; kind = kinds.Runnable; exits = 0; methods = [] }) low in
      let few : l < 64 = omega (arith, slot, inv.case.sound.sizes.locks) in
      let told = answer.2.each c blank there l few in
      ((λ is. row_answers c l blank there few (told.0 (eqb-true _ 1 is))), λ a. eq-eqb _ 1 (told.1 (answers_row c l blank there few a)))

  -- ---- owners
  owner_there : (l c : ℕ) → owner_at made l ≡ Some c → (owner : ComponentNo) × (slice_get owners l ≡ Some (Some owner)) × (owner.0 ≡ c)
  unfolding owner_at
  owner_there l c is = go (slice_get owners l) refl is
    where
      go : (found : Option (Option ComponentNo)) → slice_get owners l ≡ found → owner_of found ≡ Some c → (owner : ComponentNo) × (slice_get owners l ≡ Some (Some owner)) × (owner.0 ≡ c)
      go None at none = cc
      go (Some None) at none = cc
      go (Some (Some owner)) at some = (owner, at, (let e : owner.0 ≡ c = cc in e))

  owner_owns : (l c : ℕ) → owner_at made l ≡ Some c → Owns x l c
  owner_owns l c is =
      let o = owner_there l c is in
      let t = (owned.each l (Some o.0) o.1).there o.0 refl in
      let bit = in_mask_told s.accessed l t.3 in
      let seen = (inv.accessed l bit.0).0 bit.1 in
      record {
        method = seen.0;
        index = seen.2.1.0;
        field = t.0;
        component = t.4.0;
        access = record { reached = entered s inv seen.0 seen.2.0; slot = seen.2.1.2; is = t.1 };
        instance = t.2;
        there = subst (λ (n : ℕ). slice_get x.list n ≡ Some t.4.0) o.2 t.4.1;
        owner = t.4.2;
      }

  one_owner : (m i l : ℕ) (field : FieldRow) → IsAccess x m i l field → is_static_field field ≡ false → owner_count x field ≡ 1
  one_owner m i l field access instance = ⊎_elim (λ one. one)
      (λ other. (let pc = code_pc x.app m i (access_within x.app m i l access.slot) in absurd (unbroken 7 m pc.0 (breaks.unowned i pc.1 access instance other))))
      (cases_eq (owner_count x field) 1)

  owns_owner : (l c : ℕ) → Owns x l c → owner_at made l ≡ Some c
  unfolding owner_at
  owns_owner l c o =
      let low = field_below x.app l o.field o.access.is in
      let few : l < 64 = omega (arith, low, inv.case.sound.sizes.locks) in
      let bit = told_in_mask s.accessed l few ((inv.accessed l few).1 (o.method, entered_within s inv.case o.method o.access.reached, (marked s inv o.method o.access.reached, (o.index, access_within x.app o.method o.index l o.access.slot, o.access.slot)))) in
      let at = slice_get-get_or owners l None (omega (arith, low, owned.len)) in
      go (get_or owners l None) at bit
    where
      go : (owner : Option ComponentNo) → slice_get owners l ≡ Some owner → in_lock_mask s.accessed l ≡ true → owner_of (slice_get owners l) ≡ Some c
      go None at bit = absurd (let none = (owned.each l None at).none o.field refl o.access.is o.instance bit in true≢false (sym o.owner ∙ none c o.component o.there))
      go (Some found) at bit =
          let t = (owned.each l (Some found) at).there found refl in
          let same : ◌≡◌ {A = FieldRow} t.0 o.field = (let e : ◌≡◌ {A = Option FieldRow} (Some t.0) (Some o.field) = sym t.1 ∙ o.access.is in cc) in
          let may = subst (λ (field : FieldRow). may_own x.app field t.4.0 ≡ true) same t.4.2 in
          let one = one_only (may_own x.app o.field) x.list found.0 c t.4.0 o.component (one_owner o.method o.index l o.field o.access o.instance) t.4.1 may o.there o.owner in
          rw at (ap Some one)

  -- ---- a subject
  native_row_of : (n : ℕ) (row : _) → slice_get x.app.methods n ≡ Some row → is_native x.app n ≡ false → is_native_row (Some row) ≡ false
  unfolding is_native
  native_row_of n row there none = subst (λ (found : _). is_native_row found ≡ false) there none

  not_native : (n : ℕ) → (is_native x.app n ≡ true → ⊥) → is_native x.app n ≡ false
  not_native n none = go (is_native x.app n) refl
    where
      go : (b : Bool) → is_native x.app n ≡ b → b ≡ false
      go true is = absurd (none is)
      go false is = refl

  begins : (n : ℕ) → IsEntered x n → 0 < code_len x.app n
  begins n (given entry among) =
      let back = there_callback x.list entry among in
      let row = callback_concrete x.app x.list back.0 back.1 entry.0 inv.case.list back.2 in
      let own = native_row_of entry.0 row.row row.there (not_native entry.0 (λ native. unbroken 1 entry.0 0 (breaks.native_entry back.0 back.1 back.2 native))) in
      (inv.case.sound.methods entry.0 row.row row.there).begins (has_body row.row.flags row.concrete own)
  begins n (called {m = caller} i callee reached among) =
      let row = callee_concrete x.app x.graph inv.case.graph caller i callee among in
      let pc = code_pc x.app caller i (call_within x.app x.graph inv.case.graph.fits caller i callee among) in
      let own = native_row_of callee.0 row.row row.there (not_native callee.0 (λ native. unbroken 1 caller pc.0 (breaks.native_call i callee reached pc.1 among native))) in
      (inv.case.sound.methods callee.0 row.row row.there).begins (has_body row.row.flags row.concrete own)

  reaches : AreReached made
  reaches = record {
    methods = inv.reached.len;
    begins = λ m is. begins m ((reach_told m).0 is);
    callbacks = λ c k m there. (reach_told m).1 (entry_entered c k m there);
    callees = λ m i n is among. (reach_told n.0).1 (called i n ((reach_told m).0 is) among);
  }

  fits : FitsReached x.app (is_reached made) x.tags
  fits = record {
    registers = inv.case.tags.fits.registers;
    rows = λ m. inv.case.tags.fits.rows m ∙ ap (λ (b : Bool). if b then code_len x.app m * width_at x.tags m else 0) (same_test (inv.case.tags.reached m) (is_reached made m) (λ is. (reach_told m).1 ((inv.case.tags.reaches m).0 is)) (λ is. (inv.case.tags.reaches m).1 ((reach_told m).0 is)));
    held = inv.case.tags.fits.held;
    fields = inv.case.tags.fits.fields;
  }

  pub subject_sound : IsSubject made
  unfolding slot_count
  subject_sound = record {
    sound = inv.case.sound;
    list = inv.case.list;
    fits_graph = inv.case.graph.fits;
    fits_tags = fits;
    reaches = reaches;
    slots = inv.case.sound.sizes.locks;
    answers = answer.2.len;
    owners = owned.len;
    owned = λ l c is. (let o = owner_owns l c is in slice_get_within x.list c o.component o.there);
  }

  pub subject_in_scope : IsInScope made
  subject_in_scope = record {
    list = inv.case.list;
    graph = inv.case.graph;
    tags = inv.case.tags;
    reached = reach_told;
    answers = answers_told;
    owners = λ l c. (owner_owns l c, owns_owner l c);
    unbroken = unbroken;
  }

-- the same, where its parts are given one by one
pub subject_by : (s : SurveyParts) (given_case : Candidate) (reached : List Bool) (answers : List ℕ) (owners : List (Option ComponentNo)) → given_case ≡ s.case → reached ≡ s.reached
    → IsSurvey s → ((rule m pc : ℕ) → ¬ Breaks s.case rule m pc) → AreAnswers s answers → AreOwners s owners
    → let y : SubjectParts = record { app = given_case.app; graph = given_case.graph; list = given_case.list; tags = given_case.tags; reached = reached; answers = answers; owners = owners } in IsSubject y × IsInScope y
subject_by s given_case reached answers owners case_is reached_is inv unbroken answer owned =
    subst (λ (x : Candidate). (let y : SubjectParts = record { app = x.app; graph = x.graph; list = x.list; tags = x.tags; reached = reached; answers = answers; owners = owners } in IsSubject y × IsInScope y)) (sym case_is)
    (subst (λ (marks : List Bool). (let y : SubjectParts = record { app = s.case.app; graph = s.case.graph; list = s.case.list; tags = s.case.tags; reached = marks; answers = answers; owners = owners } in IsSubject y × IsInScope y)) (sym reached_is)
    (subject_sound s inv unbroken answers owners answer owned, subject_in_scope s inv unbroken answers owners answer owned))
