-- A component list, as contracts see it.
use Rattle.std.specs.Prelude.{ℕ, ◌≢◌, ◌<◌, ◌≤◌, ◌^◌, List, length}
use Rattle.std.specs.List.{All, AllPairs}
use Rattle.ns_base.specs.Answers.{limit_of}
use Rattle.ns_base.specs.declared.answers.Counted.TheVariants.{Components}
use Rattle.app_model.specs.declared.component.Kind.{Kind}
use Rattle.app_model.specs.Components.{callbacks_of}

-- a row: the class by its descriptor, and the exits as a mask over the callbacks of the kind
pub record ListedParts : Type 0 where
  pub kind : Kind
  pub class : List ℕ
  pub exits : ℕ

abbrev pub HasExits : ListedParts → Type 0
HasExits row = row.exits < 2 ^ length (callbacks_of row.kind)

-- what holds of every list that was read, and is asked of a list that is bound
pub record IsReadList (rows : List ListedParts) : Type 0 where
  pub limit : length rows ≤ limit_of Components
  pub distinct : AllPairs (λ (a b : ListedParts). a.class ≢ b.class) rows
  -- they name callbacks of the kind
  pub exits : All HasExits rows
