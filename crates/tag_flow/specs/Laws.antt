-- What holds of all flows of tags.
use Rattle.std.specs.Prelude.{ℕ, ◌≡◌, Bool, List}
use Rattle.app_model.specs.CallGraph.{GraphParts}
use Rattle.app_model.specs.Components.{ComponentParts}
use Rattle.app_model.specs.Parts.{AppParts}
use Rattle.app_model.specs.TagTable.{TagParts}
use Rattle.app_model.specs.declared.tag.Tag.{Tag}
use Rattle.flow_model.specs.TagFlow.{Flow, TableUnder}
use Rattle.tag_rows.specs.Order.{RowUnder}

-- what flows in a table flows in each table above it, as a row above
abbrev pub FlowLaw : Type 0
FlowLaw =
    (app : AppParts) (graph : GraphParts) (list : List ComponentParts) (gone : (n l : ℕ) → Bool) (low high : TagParts) → low.registers ≡ high.registers → TableUnder low high
    → (m j : ℕ) (row : List Tag) → Flow app graph list gone low m j row → (above : List Tag) × Flow app graph list gone high m j above × RowUnder row above
