-- What an instruction of a subject does to lock field l: its masks, its own operations, and the calls that it lets pass.
use Rattle.std.specs.Prelude.{ℕ, Option, Some, None, List, Bool, true, false}
use Rattle.app_model.specs.declared.tag.Tag.{Tag}
use Rattle.app_model.specs.Subject.{SubjectParts, row_at, outside_at}
use Rattle.act_model.specs.declared.act.Act.{Act}
use Rattle.act_model.specs.declared.act.Act.TheVariants.{Return}
use Rattle.act_model.specs.Acts.{act_at}
use Rattle.flow_model.specs.Passes.{passes, throws, is_own, is_open_act}

-- with which statuses instruction i of method m leads to its successor number k from a status, and with which it throws
pub record Masks : Type 0 where
  pub passes : (m i k s : ℕ) → ℕ
  pub throws : (m i s : ℕ) → ℕ

abbrev pub mask_passes : ℕ → Option Act → List Tag → (outside : Bool) → (k s : ℕ) → ℕ
mask_passes l None row outside k s = 0
mask_passes l (Some act) row outside k s = passes l act row outside k s

abbrev pub mask_throws : ℕ → Option Act → List Tag → (outside : Bool) → (s : ℕ) → ℕ
mask_throws l None row outside s = 0
mask_throws l (Some act) row outside s = throws l act row outside s

-- the masks of the status rules
abbrev pub status_masks : SubjectParts → ℕ → Masks
status_masks x l = record {
  passes = λ m i k s. mask_passes l (act_at x.app m i) (row_at x m i) (outside_at x m i) k s;
  throws = λ m i s. mask_throws l (act_at x.app m i) (row_at x m i) (outside_at x m i) s;
}

abbrev pub own_by : ℕ → Option Act → List Tag → Bool
own_by l None row = false
own_by l (Some act) row = is_own l act row

-- instruction i of method m is an own operation of lock field l
abbrev pub own_operation : SubjectParts → ℕ → (m i : ℕ) → Bool
own_operation x l m i = own_by l (act_at x.app m i) (row_at x m i)

abbrev pub open_by : ℕ → Option Act → List Tag → (s : ℕ) → Bool
open_by l None row s = false
open_by l (Some act) row s = is_open_act l act row s

-- the receiver of the call there lets it pass at status s, or it has none
abbrev pub is_open : SubjectParts → ℕ → (m i s : ℕ) → Bool
is_open x l m i s = open_by l (act_at x.app m i) (row_at x m i) s

abbrev pub is_return : Option Act → Bool
is_return (Some (Return answer)) = true
is_return act = false

-- instruction i of method m returns
abbrev pub returns_at : SubjectParts → (m i : ℕ) → Bool
returns_at x m i = is_return (act_at x.app m i)
