-- How many cells a table of an application has, and why there is none.
use Rattle.std.specs.Prelude.{ℕ, ◌≡◌, ◌<◌, ◌≤◌, Bool, List}
use Rattle.ns_base.specs.Answers.{limit_of}
use Rattle.ns_base.specs.declared.answers.Counted.TheVariants.{TagCells}
use Rattle.app_model.specs.CallGraph.{GraphParts}
use Rattle.app_model.specs.Components.{ComponentParts}
use Rattle.app_model.specs.Parts.{AppParts}
use Rattle.app_model.specs.TagTable.{cell_total}
use Rattle.flow_model.specs.TagFlow.{TellsReached}
use Rattle.tag_flow.specs.declared.fault.TagFault.{TagFault}
use Rattle.tag_flow.specs.declared.fault.TagFault.TheVariants.{Limit, Memory}

-- the table has so many cells: a row for each instruction of the methods that are reached
pub record HasCells (app : AppParts) (graph : GraphParts) (list : List ComponentParts) (n : ℕ) : Type 0 where
  pub reached : ℕ → Bool
  pub reaches : TellsReached graph list reached
  pub count : n ≡ cell_total app reached

abbrev pub HasFew : AppParts → GraphParts → List ComponentParts → Type 0
HasFew app graph list = (n : ℕ) × HasCells app graph list n × (n ≤ limit_of TagCells)

-- the cells are too many; want of memory has no other cause
abbrev pub IsCause : AppParts → GraphParts → List ComponentParts → TagFault → Type 0
IsCause app graph list Memory = Unit {0}
IsCause app graph list (Limit counted) = (counted ≡ TagCells) × ((n : ℕ) × HasCells app graph list n × (limit_of TagCells < n))
