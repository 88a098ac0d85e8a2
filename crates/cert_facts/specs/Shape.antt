-- Whether the parts of a certificate fit the subject: one for each lock field, with its name, and rows that tell of what
-- the subject has.
use Rattle.std.specs.Prelude.{ℕ, ◌≡◌, ◌<◌, ◌≤◌, ◌^◌, true, List, length, Option, Some, None, slice_get}
use Rattle.std.specs.List.{All}
use Rattle.app_model.specs.declared.component.Kind.{Kind}
use Rattle.app_model.specs.declared.component.Kind.TheVariants.{Activity, Service, Receiver, Runnable}
use Rattle.app_model.specs.Components.{ComponentParts}
use Rattle.app_model.specs.Shown.{lock_text}
use Rattle.app_model.specs.Subject.{SubjectParts, is_reached, slot_count}
use Rattle.app_model.specs.Words.{code_len}
use Rattle.cert_line.specs.declared.rows.ViewRow.{ViewRow}
use Rattle.cert_line.specs.Parts.{BodyParts}
use Rattle.certificate.specs.Parts.{LockRows}

-- how many states a lifecycle has
abbrev pub state_count : Kind → ℕ
state_count Activity = 7
state_count Service = 2
state_count Receiver = 1
state_count Runnable = 1

abbrev pub states_of : Option ComponentParts → ℕ
states_of None = 0
states_of (Some component) = state_count component.kind

-- of component c; 0 out of range
unfoldable pub states_at : List ComponentParts → (c : ℕ) → ℕ
states_at list c = states_of (slice_get list c)

abbrev pub FitsView : SubjectParts → ViewRow → Type 0
FitsView x row = row.state < states_at x.list row.component

pub record FitsBody (x : SubjectParts) (row : BodyParts) : Type 0 where
  pub status : row.entry < 8
  pub reached : is_reached x row.method ≡ true
  pub code : length row.masks ≡ code_len x.app row.method

-- the name as it is shown
abbrev pub HasName : SubjectParts → (l : ℕ) → List ℕ → Type 0
HasName x l name = (length name < 2 ^ 32) × (name ≡ lock_text x.app l)

pub record FitsLock (x : SubjectParts) (l : ℕ) (part : LockRows) : Type 0 where
  pub slot : l < slot_count x
  pub name : HasName x l part.name
  pub views : All (FitsView x) part.views
  pub bodies : All (FitsBody x) part.bodies

-- the part of lock field l, where it is there
abbrev pub FitsAt : SubjectParts → (l : ℕ) → Option LockRows → Type 0
FitsAt x l None = slot_count x ≤ l
FitsAt x l (Some part) = FitsLock x l part

-- the first number of which the parts do not fit
abbrev pub IsFirstUnfit : SubjectParts → List LockRows → Option ℕ → Type 0
IsFirstUnfit x parts None = (l : ℕ) → FitsAt x l (slice_get parts l)
IsFirstUnfit x parts (Some l) = (¬ FitsAt x l (slice_get parts l)) × ((k : ℕ) → k < l → FitsAt x k (slice_get parts k))
