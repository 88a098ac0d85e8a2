-- Where rules are broken there is an instruction of a method.
use Rattle.std.proofs.Common.{◌≡◌, ◌≢◌, ℕ, ◌<◌, ◌||◌, ◌∷◌, [], true, if◌then◌else◌, not, List, length, get_or, refl, sym, ap, ◌∙◌, subst, ⊎_elim, arith, Contains, Option, Some, None, is_some, slice_get, slice_index_or}
use Rattle.std.proofs.lemmas.Bool.{cases_lt, true≢false}
use Rattle.std.proofs.lemmas.List.{get_or_past}
use Rattle.std.proofs.lemmas.Option.{slice_get_within, slice_get-get_or}
use Rattle.dalvik.specs.declared.body.Place.{Place}
use Rattle.app_model.specs.declared.rows.MethodRow.{MethodRow}
use Rattle.ns_base.specs.declared.rows.MethodNo.{MethodNo}
use Rattle.app_model.specs.CallGraph.{FitsCode, GraphParts, callees_at, use_at}
use Rattle.call_reach.proofs.Reached.{set_by_callee}
use Rattle.app_model.specs.LockUse.{invoke_of, lock_use_at, use_by}
use Rattle.app_model.specs.Parts.{AppParts}
use Rattle.app_model.specs.Slots.{is_object_access, lock_named, slot_at}
use Rattle.app_model.specs.Sound.{IsSoundApp}
use Rattle.app_model.specs.Targets.{is_plain}
use Rattle.app_model.specs.Words.{code_len, field_named_at, ins_at, ins_of, named_at, no_body, pc_at, pc_of, place_at, places_of}
use Rattle.flow_model.specs.Breaks.{is_callback_name, is_lock_ins, is_native, is_native_row, made_type, method_name, name_of_row}

not_none : {A : Type 0} (xs : List A) (i : ℕ) → i < length xs → slice_get xs i ≡ None → ⊥
not_none [] i low is = omega (arith, low)
not_none (x ∷ xs) i low is = (let e : ◌≡◌ {A = Option _} (Some (get_or (x ∷ xs) i x)) None = sym (slice_get-get_or (x ∷ xs) i x low) ∙ is in cc)

user_row : (graph : GraphParts) (m i s : ℕ) → use_at graph m i ≡ Some (Some s) → i < length (slice_index_or graph.uses m [])
unfolding use_at
user_row graph m i s is = slice_get_within (slice_index_or graph.uses m []) i (Some s) is

pub code_within : (app : AppParts) → IsSoundApp app → (m i : ℕ) → i < code_len app m → m < length app.methods
unfolding places_of
code_within app sound m i low = ⊎_elim (λ lt. lt)
    (λ past. absurd (let none = get_or_past app.code m no_body (omega (arith, past, sound.sizes.code)) in
    let zero : i < 0 = subst (λ (body : _). i < length body.places) none low in omega (arith, zero)))
    (cases_lt m (length app.methods))

pub pc_within : (app : AppParts) (m i pc : ℕ) → pc_at app m i ≡ Some pc → i < code_len app m
unfolding place_at
pc_within app m i pc at = go (slice_get (places_of app m) i) refl at
  where
    go : (place : Option Place) → slice_get (places_of app m) i ≡ place → pc_of place ≡ Some pc → i < code_len app m
    go None there none = cc
    go (Some place) there some = slice_get_within (places_of app m) i place there

pub lock_within : (app : AppParts) (m i : ℕ) → is_lock_ins app m i ≡ true → i < code_len app m
unfolding is_lock_ins lock_use_at slot_at place_at
lock_within app m i is = go (slice_get (places_of app m) i) refl is
  where
    go : (place : Option Place) → slice_get (places_of app m) i ≡ place
        → (not (is_plain (use_by app (invoke_of (ins_of place)) (named_at app m i))) || is_some (if is_object_access (ins_of place) then lock_named app (field_named_at app m i) else None)) ≡ true → i < code_len app m
    go None there none = absurd (true≢false (sym none))
    go (Some place) there some = slice_get_within (places_of app m) i place there

pub native_within : (app : AppParts) (m : ℕ) → is_native app m ≡ true → m < length app.methods
unfolding is_native
native_within app m is = go (slice_get app.methods m) refl is
  where
    go : (row : Option MethodRow) → slice_get app.methods m ≡ row → is_native_row row ≡ true → m < length app.methods
    go None there none = absurd (true≢false (sym none))
    go (Some row) there some = slice_get_within app.methods m row there

-- a method that has a name
pub named_within : (app : AppParts) (m : ℕ) → method_name app m ≢ [] → m < length app.methods
unfolding method_name
named_within app m named = go (slice_get app.methods m) refl named
  where
    go : (row : Option MethodRow) → slice_get app.methods m ≡ row → name_of_row app row ≢ [] → m < length app.methods
    go None there none = absurd (none refl)
    go (Some row) there some = slice_get_within app.methods m row there

pub callback_named : (name : List ℕ) → is_callback_name name ≡ true → name ≢ []
unfolding is_callback_name
callback_named name is empty = let no : is_callback_name [] ≡ true = subst (λ (n : List ℕ). is_callback_name n ≡ true) empty is in true≢false (sym no)

pub made_within : (app : AppParts) (m i t : ℕ) → made_type (ins_at app m i) ≡ Some t → i < code_len app m
unfolding place_at
made_within app m i t is = go (slice_get (places_of app m) i) refl is
  where
    go : (place : Option Place) → slice_get (places_of app m) i ≡ place → made_type (ins_of place) ≡ Some t → i < code_len app m
    go None there none = cc
    go (Some place) there some = slice_get_within (places_of app m) i place there

pub access_within : (app : AppParts) (m i l : ℕ) → slot_at app m i ≡ Some l → i < code_len app m
unfolding slot_at place_at
access_within app m i l is = go (slice_get (places_of app m) i) refl is
  where
    go : (place : Option Place) → slice_get (places_of app m) i ≡ place → (if is_object_access (ins_of place) then lock_named app (field_named_at app m i) else None) ≡ Some l → i < code_len app m
    go None there none = cc
    go (Some place) there some = slice_get_within (places_of app m) i place there

-- each instruction has a pc
pub code_pc : (app : AppParts) (m i : ℕ) → i < code_len app m → (pc : ℕ) × (pc_at app m i ≡ Some pc)
unfolding place_at
code_pc app m i low = go (slice_get (places_of app m) i) refl
  where
    go : (place : Option Place) → slice_get (places_of app m) i ≡ place → (pc : ℕ) × (pc_of (slice_get (places_of app m) i) ≡ Some pc)
    go None none = absurd (let there = not_none (places_of app m) i low in there none)
    go (Some place) there = (place.pc, ap pc_of there)

-- a call that has a callee is an instruction
pub call_within : (app : AppParts) (graph : GraphParts) → FitsCode app graph → (m i : ℕ) (n : MethodNo) → Contains (callees_at graph m i) n → i < code_len app m
call_within app graph fits m i n among =
    let by = set_by_callee graph m i n among in
    let row = user_row graph m i by.0 by.2 in
    omega (arith, row, fits.rows m)
