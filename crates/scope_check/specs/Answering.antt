-- For which lock fields each component answers, and who owns them, as they are found.
use Rattle.std.specs.Prelude.{ℕ, ◌≡◌, ◌<◌, true, false, List, length, Option, Some, None, slice_get, slice_index}
use Rattle.ns_base.specs.declared.rows.ComponentNo.{ComponentNo}
use Rattle.ns_base.specs.declared.rows.MethodNo.{MethodNo}
use Rattle.app_model.specs.declared.rows.FieldRow.{FieldRow}
use Rattle.app_model.specs.Components.{ComponentParts}
use Rattle.app_model.specs.Masks.{in_lock_mask}
use Rattle.app_model.specs.Parts.{AppParts}
use Rattle.app_model.specs.TagTable.{row_at}
use Rattle.app_model.specs.Words.{code_len}
use Rattle.act_model.specs.Acts.{act_at}
use Rattle.call_reach.specs.Spread.{Has}
use Rattle.call_reach.specs.Starts.{AreGathered}
use Rattle.flow_model.specs.Breaks.{Candidate, field_of_lock, is_static_field, may_own}
use Rattle.flow_model.specs.Policy.{acquires}
use Rattle.scope_facts.specs.Bits.{HoldsBelow, Tells}
use Rattle.scope_facts.specs.Fields.{is_marked}
use Rattle.scope_check.specs.Surveys.{SurveyParts}

abbrev pub AcquiresAt : Candidate → (m i l : ℕ) → Type 0
AcquiresAt x m i l = acquires l (act_at x.app m i) (row_at x.tags m i) ≡ true

-- method m is reached, and acquires what lock field l holds
abbrev pub AcquiresIn : SurveyParts → (m l : ℕ) → Type 0
AcquiresIn s m l = (is_marked s.reached m ≡ true) × HoldsBelow (code_len s.case.app m) (AcquiresAt s.case m) l

pub record AreAcquired (s : SurveyParts) (words : List ℕ) : Type 0 where
  pub len : length words ≡ length s.case.app.methods
  pub each : (m : ℕ) → m < length s.case.app.methods → Tells (slice_index words m) (AcquiresIn s m)

-- words of what the reach of each method acquires
abbrev pub AcquiresBelow : SurveyParts → List ℕ → Type 0
AcquiresBelow s below = (own : List ℕ) × AreAcquired s own × AreGathered s.case.app s.case.graph own below

abbrev pub WordHas : List ℕ → Option MethodNo → ℕ → Type 0
WordHas words None l = ⊥
WordHas words (Some method) l = Has words method.0 l

abbrev pub MethodHas : List ℕ → List (Option MethodNo) → (k l : ℕ) → Type 0
MethodHas words methods k l = (method : Option MethodNo) × (slice_get methods k ≡ Some method) × WordHas words method l

abbrev pub RowHas : List ℕ → ComponentParts → ℕ → Type 0
RowHas words component = HoldsBelow (length component.methods) (MethodHas words component.methods)

-- a word for each component
pub record AreRowAnswers (below : List ℕ) (list : List ComponentParts) (answers : List ℕ) : Type 0 where
  pub len : length answers ≡ length list
  pub each : (c : ℕ) (component : ComponentParts) → slice_get list c ≡ Some component → Tells (slice_index answers c) (RowHas below component)

abbrev pub AreAnswers : SurveyParts → List ℕ → Type 0
AreAnswers s answers = (below : List ℕ) × AcquiresBelow s below × AreRowAnswers below s.case.list answers

-- ---- owners
-- a component that may own an instance field; None where none may
abbrev pub IsOwner : AppParts → List ComponentParts → FieldRow → Option ComponentNo → Type 0
IsOwner app list field None = (c : ℕ) (component : ComponentParts) → slice_get list c ≡ Some component → may_own app field component ≡ false
IsOwner app list field (Some c) = (component : ComponentParts) × (slice_get list c.0 ≡ Some component) × (may_own app field component ≡ true)

-- the owner of lock field l: there is none of one that is static, or that reached code does not access
pub record IsOwnerOf (s : SurveyParts) (l : ℕ) (owner : Option ComponentNo) : Type 0 where
  pub there : (c : ComponentNo) → owner ≡ Some c → (field : FieldRow) × (field_of_lock s.case.app l ≡ Some field) × (is_static_field field ≡ false) × (in_lock_mask s.accessed l ≡ true) × IsOwner s.case.app s.case.list field owner
  pub none : (field : FieldRow) → owner ≡ None → field_of_lock s.case.app l ≡ Some field → is_static_field field ≡ false → in_lock_mask s.accessed l ≡ true → IsOwner s.case.app s.case.list field None

pub record AreOwners (s : SurveyParts) (owners : List (Option ComponentNo)) : Type 0 where
  pub len : length owners ≡ length s.case.app.locks
  pub each : (l : ℕ) (owner : Option ComponentNo) → slice_get owners l ≡ Some owner → IsOwnerOf s l owner
