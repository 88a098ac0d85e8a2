-- A subject in scope: its parts are those that its application and its list have, and no rule of scope is broken.
use Rattle.std.specs.Prelude.{ℕ, ◌≡◌, ◌<◌, ◌↔◌, true, false, length, Some, slice_get}
use Rattle.app_model.specs.declared.rows.FieldRow.{FieldRow}
use Rattle.app_model.specs.Components.{BelongsTo, ComponentParts, callback_at}
use Rattle.app_model.specs.Subject.{SubjectParts, answers_at, is_reached, owner_at, slot_count}
use Rattle.app_model.specs.TagTable.{row_at}
use Rattle.app_model.specs.Targets.{IsCallGraph}
use Rattle.act_model.specs.Acts.{act_at}
use Rattle.flow_model.specs.Breaks.{Breaks, Candidate, IsAccess, IsBelow, is_static_field, may_own}
use Rattle.flow_model.specs.Policy.{acquires}
use Rattle.flow_model.specs.TagFlow.{IsTagTableOf, TellsReached}

abbrev pub candidate_of : SubjectParts → Candidate
candidate_of x = record { app = x.app; graph = x.graph; list = x.list; tags = x.tags }

-- component c answers for lock field l: a callback of it reaches an acquire of what the field holds
pub record AnswersFor (x : Candidate) (c l : ℕ) : Type 0 where
  pub callback : ℕ
  pub entry : ℕ
  pub method : ℕ
  pub index : ℕ
  pub there : callback_at x.list c callback ≡ Some entry
  pub reached : IsBelow x entry method
  pub acquires : acquires l (act_at x.app method index) (row_at x.tags method index) ≡ true

-- component c owns the instance lock field l, which reached code accesses
pub record Owns (x : Candidate) (l c : ℕ) : Type 0 where
  pub method : ℕ
  pub index : ℕ
  pub field : FieldRow
  pub component : ComponentParts
  pub access : IsAccess x method index l field
  pub instance : is_static_field field ≡ false
  pub there : slice_get x.list c ≡ Some component
  pub owner : may_own x.app field component ≡ true

pub record IsInScope (x : SubjectParts) : Type 0 where
  pub list : BelongsTo x.app x.list
  pub graph : IsCallGraph x.app x.graph
  pub tags : IsTagTableOf x.app x.graph x.list x.tags
  pub reached : TellsReached x.graph x.list (is_reached x)
  pub answers : (c l : ℕ) → c < length x.list → l < slot_count x → (answers_at x c l ≡ true) ↔ AnswersFor (candidate_of x) c l
  pub owners : (l c : ℕ) → (owner_at x l ≡ Some c) ↔ Owns (candidate_of x) l c
  pub unbroken : (rule m pc : ℕ) → ¬ Breaks (candidate_of x) rule m pc
