-- What a survey knows, in the words of the rules.
use Rattle.std.proofs.Common.{◌≡◌, ℕ, ◌<◌, ◌==◌, true, List, length, get_or, refl, sym, ◌∙◌, subst, arith, Option, Some, None, slice_get, nat_lt, eqb-true, eq-eqb}
use Rattle.std.specs.Int.{bit_at}
use Rattle.std.proofs.lemmas.Bool.{lt-ltb, ltb-true, true≢false}
use Rattle.std.proofs.lemmas.Option.{slice_get-get_or, slice_get_within}
use Rattle.ns_base.specs.declared.rows.FieldNo.{FieldNo}
use Rattle.app_model.specs.declared.rows.FieldRow.{FieldRow}
use Rattle.app_model.specs.Components.{entries_of}
use Rattle.app_model.specs.Masks.{in_lock_mask}
use Rattle.app_model.specs.declared.tag.Tag.{Tag}
use Rattle.dalvik.specs.declared.body.Place.{Place}
use Rattle.app_model.specs.Words.{code_len, ins_of, place_at, places_of}
use Rattle.act_model.specs.declared.act.Act.{Act}
use Rattle.act_model.specs.declared.act.Act.TheVariants.{WriteSlot}
use Rattle.act_model.specs.Acts.{act_at, act_by}
use Rattle.flow_model.specs.Passes.{is_slot}
use Rattle.flow_model.specs.Scope.{stores_new}
use Rattle.flow_model.proofs.Slots.{act_stored_below}
use Rattle.app_model.specs.Parts.{AppParts}
use Rattle.app_model.specs.Sound.{IsSoundApp}
use Rattle.class_graph.proofs.Lists.{same_test}
use Rattle.flow_model.specs.Breaks.{IsEntered, field_of_lock, is_static_field}
use Rattle.scope_facts.specs.Cases.{IsCase}
use Rattle.scope_facts.specs.Fields.{is_marked}
use Rattle.scope_check.specs.Surveys.{IsSurvey, SurveyParts}
use Rattle.scope_facts.proofs.Entries.{entries_within, marked_within, reached_within}
use Rattle.scope_facts.proofs.FieldLaws.{field_below}
use Rattle.scope_facts.proofs.ThreadLaws.{and_true, both}

-- ---- masks
pub in_mask_told : (mask l : ℕ) → in_lock_mask mask l ≡ true → (l < 64) × (bit_at mask l ≡ 1)
in_mask_told mask l is = let b = both (nat_lt l 64) (bit_at mask l == 1) is in (ltb-true l 64 b.0, eqb-true (bit_at mask l) 1 b.1)

pub told_in_mask : (mask l : ℕ) → l < 64 → bit_at mask l ≡ 1 → in_lock_mask mask l ≡ true
told_in_mask mask l low is = and_true (nat_lt l 64) (bit_at mask l == 1) (lt-ltb l 64 low) (eq-eqb (bit_at mask l) 1 is)

-- ---- reach
pub entered_within : (s : SurveyParts) → IsCase s.case → (m : ℕ) → IsEntered s.case m → m < length s.case.app.methods
entered_within s case m reached = reached_within s.case.app s.case.graph case.graph.fits (entries_of s.case.list) (entries_within s.case.app s.case.list case.list) m reached

pub entered : (s : SurveyParts) → IsSurvey s → (m : ℕ) → is_marked s.reached m ≡ true → IsEntered s.case m
entered s inv m is = (inv.reached.exact m (let low = marked_within s.reached m is in omega (arith, low, inv.reached.len))).0 is

pub marked : (s : SurveyParts) → IsSurvey s → (m : ℕ) → IsEntered s.case m → is_marked s.reached m ≡ true
marked s inv m reached = (inv.reached.exact m (entered_within s inv.case m reached)).1 reached

-- ---- lock fields
pub lock_field : (app : AppParts) → IsSoundApp app → (l : ℕ) → l < length app.locks → (field : FieldRow) × (field_of_lock app l ≡ Some field)
unfolding field_of_lock
lock_field app sound l low =
    let blank : FieldNo = record { 0 = 0 } in
    let f : FieldNo = get_or app.locks l blank in
    let row : FieldRow = record { class = record { 0 = 0 }; name = record { 0 = 0 }; kind = record { 0 = 0 }; flags = 0 } in
    let there = sound.locks.fields l blank low in
    (get_or app.fields f.0 row, rw (slice_get-get_or app.locks l blank low) (slice_get-get_or app.fields f.0 row there))

pub static_known : (s : SurveyParts) → IsSurvey s → (sound : IsSoundApp s.case.app) → (l : ℕ) (field : FieldRow) → field_of_lock s.case.app l ≡ Some field → is_static_field field ≡ in_lock_mask s.statics l
static_known s inv sound l field is =
    let low = field_below s.case.app l field is in
    let few : l < 64 = omega (arith, low, sound.sizes.locks) in
    same_test _ _
    (λ static. told_in_mask s.statics l few ((inv.statics l few).1 (field, is, static)))
    (λ told. (let st = (inv.statics l few).0 (in_mask_told s.statics l told).1 in
    let same : ◌≡◌ {A = FieldRow} st.0 field = (let e : ◌≡◌ {A = Option FieldRow} (Some st.0) (Some field) = sym st.1 ∙ is in cc) in
    subst (λ (f : FieldRow). is_static_field f ≡ true) same st.2))

-- ---- stores of new locks
store_slot : (app : AppParts) (m i l : ℕ) (row : List Tag) → stores_new l (act_at app m i) row ≡ true → l < length app.locks
store_slot app m i l row is = go (act_at app m i) refl is
  where
    go : (act : Option Act) → act_at app m i ≡ act → stores_new l act row ≡ true → l < length app.locks
    go (Some (WriteSlot from slot throws)) there some =
        let low = act_stored_below app m i from slot throws there in
        let same = eqb-true slot.0 l (both (is_slot l slot) _ some).0 in
        omega (arith, low, same)
    go _ there none = cc

pub store_within : (app : AppParts) → IsSoundApp app → (l m i : ℕ) (row : List Tag) → stores_new l (act_at app m i) row ≡ true → l < 64
store_within app sound l m i row is = let low = store_slot app m i l row is in omega (arith, low, sound.sizes.locks)

pub store_code : (app : AppParts) (m i l : ℕ) (row : List Tag) → stores_new l (act_at app m i) row ≡ true → i < code_len app m
unfolding act_at place_at
store_code app m i l row is = go (slice_get (places_of app m) i) refl is
  where
    go : (place : Option Place) → slice_get (places_of app m) i ≡ place → stores_new l (act_by app m i (ins_of place)) row ≡ true → i < code_len app m
    go None there none = absurd (true≢false (sym none))
    go (Some place) there some = slice_get_within (places_of app m) i place there
