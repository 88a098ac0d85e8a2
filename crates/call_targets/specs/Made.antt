-- The sets, as far as they are made, and their entries.
use Rattle.std.specs.Prelude.{ℕ, ◌≡◌, ◌<◌, ◌≤◌, ◌+◌, ◌*◌, Bool, true, false, if◌then◌else◌, List, [], ◌∷◌, length, Some, map, slice_get, slice_index_or}
use Rattle.ns_base.specs.Answers.{limit_of}
use Rattle.ns_base.specs.declared.answers.Counted.TheVariants.{Targets}
use Rattle.app_model.specs.CallGraph.{TargetParts, no_targets}
use Rattle.app_model.specs.Parts.{AppParts}
use Rattle.call_targets.specs.Numbered.{weigh}
use Rattle.call_targets.specs.Sources.{row_from}
use Rattle.call_targets.specs.declared.numbers.SetRow.{SetRow}
use Rattle.call_targets.specs.declared.fault.TargetFault.{TargetFault}
use Rattle.call_targets.specs.declared.fault.TargetFault.TheVariants.{Limit, Memory}

pub record SetsParts : Type 0 where
  pub plan : List SetRow
  pub rows : List TargetParts
  pub made : List Bool
  pub total : ℕ

-- entries of sets, each as often as keys have it
abbrev pub weigh_sets : List SetRow → List TargetParts → ℕ
weigh_sets [] rows = 0
weigh_sets (set ∷ plan) [] = 0
weigh_sets (set ∷ plan) (row ∷ rows) = set.keys * length row.callees + weigh_sets plan rows

-- set by set: one that is made is that of its source, and the others are empty
pub data AreMade (app : AppParts) : List SetRow → List TargetParts → List Bool → Type 0 where
  none : AreMade app [] [] []
  more : {set : SetRow} {plan : List SetRow} {row : TargetParts} {rows : List TargetParts} {flag : Bool} {made : List Bool}
      → row ≡ (if flag then row_from app set.source else no_targets) → AreMade app plan rows made → AreMade app (set ∷ plan) (row ∷ rows) (flag ∷ made)

pub record AreSets (app : AppParts) (sets : SetsParts) : Type 0 where
  pub made : AreMade app sets.plan sets.rows sets.made
  pub total : sets.total ≡ weigh_sets sets.plan sets.rows
  pub few : sets.total ≤ limit_of Targets

pub record HasPlaces (sets : SetsParts) : Type 0 where
  pub rows : length sets.rows ≡ length sets.plan
  pub made : length sets.made ≡ length sets.plan

-- set s is not made, and this is what it is to be
pub record IsToMake (app : AppParts) (old : SetsParts) (s : ℕ) (row : TargetParts) : Type 0 where
  pub sets : AreSets app old
  pub unmade : slice_index_or old.made s false ≡ false
  pub is : (set : SetRow) → slice_get old.plan s ≡ Some set → row ≡ row_from app set.source

-- sets of the same plan, with all that were made
pub record Grows (app : AppParts) (old new : SetsParts) : Type 0 where
  pub sets : AreSets app new
  pub plan : new.plan ≡ old.plan
  pub kept : (k : ℕ) → slice_index_or old.made k false ≡ true → slice_index_or new.made k false ≡ true

-- and set s too
pub record Fills (app : AppParts) (s : ℕ) (old new : SetsParts) : Type 0 where
  pub grows : Grows app old new
  pub there : slice_index_or new.made s false ≡ true

abbrev pub AreMadeBelow : SetsParts → ℕ → Type 0
AreMadeBelow sets n = (s : ℕ) → s < n → slice_index_or sets.made s false ≡ true

abbrev pub all_rows : AppParts → List SetRow → List TargetParts
all_rows app plan = map (λ (set : SetRow). row_from app set.source) plan

-- the plan has more entries than are allowed
abbrev pub IsOver : AppParts → List SetRow → TargetFault → Type 0
IsOver app plan Memory = Unit {0}
IsOver app plan (Limit counted) = (counted ≡ Targets) × (limit_of Targets < weigh app plan)
