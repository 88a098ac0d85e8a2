-- What is known of each lock field before the rules are looked at.
use Rattle.std.specs.Prelude.{ℕ, ◌≡◌, ◌≢◌, ◌⊎◌, Bool, true, false, List, Some, slice_index_or}
use Rattle.app_model.specs.declared.rows.FieldRow.{FieldRow}
use Rattle.app_model.specs.Masks.{in_lock_mask}
use Rattle.app_model.specs.Parts.{AppParts}
use Rattle.app_model.specs.Slots.{slot_at}
use Rattle.app_model.specs.Words.{code_len, ins_at}
use Rattle.flow_model.specs.Breaks.{Candidate, field_of_lock, is_static_field, made_type, owner_count}
use Rattle.scope_facts.specs.declared.fields.Seen.{Seen}
use Rattle.scope_facts.specs.Bits.{HoldsBelow, Tells}
use Rattle.scope_facts.specs.Texts.{IsBelowLock}

abbrev pub IsStatic : AppParts → ℕ → Type 0
IsStatic app l = (field : FieldRow) × (field_of_lock app l ≡ Some field) × (is_static_field field ≡ true)

-- ---- what instructions access and make
abbrev pub Accesses : AppParts → (m i l : ℕ) → Type 0
Accesses app m i l = slot_at app m i ≡ Some l

-- an object of the lock field's class, or of one below it
abbrev pub Makes : AppParts → (m i l : ℕ) → Type 0
Makes app m i l = (kind : ℕ) × (made_type (ins_at app m i) ≡ Some kind) × IsBelowLock app kind l

abbrev pub AccessesIn : AppParts → (m l : ℕ) → Type 0
AccessesIn app m l = HoldsBelow (code_len app m) (Accesses app m) l

abbrev pub MakesIn : AppParts → (m l : ℕ) → Type 0
MakesIn app m l = HoldsBelow (code_len app m) (Makes app m) l

pub record IsSeen (accesses makes : ℕ → Type 0) (seen : Seen) : Type 0 where
  pub accessed : Tells seen.accessed accesses
  pub made : Tells seen.made makes

-- method m is reached
abbrev pub is_marked : List Bool → (m : ℕ) → Bool
is_marked marks m = slice_index_or marks m false

abbrev pub InReached : (marks : List Bool) → ((m l : ℕ) → Type 0) → (m l : ℕ) → Type 0
InReached marks P m l = (is_marked marks m ≡ true) × P m l

-- ---- the fields without their one owner; `made` has those of whose classes objects are made
abbrev pub IsFaulty : Candidate → (made l : ℕ) → Type 0
IsFaulty x made l =
    (field : FieldRow) × (field_of_lock x.app l ≡ Some field) × (is_static_field field ≡ false)
    × ((owner_count x field ≢ 1) ⊎ (in_lock_mask made l ≡ true))
