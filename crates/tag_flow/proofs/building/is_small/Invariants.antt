use Rattle.std.proofs.Common.{◌≡◌, ◌≤◌}
use Rattle.ns_base.specs.Answers.{limit_of}
use Rattle.ns_base.specs.declared.answers.Counted.TheVariants.{TagCells}
use Rattle.app_model.specs.TagTable.{cells_below}
use Rattle.tag_flow.specs.Known.{is_reached}
use Rattle.tag_flow.proofs.building.is_small.Given as goal

abbrev pub invariant-loop-method : goal.invariant-loop-method
invariant-loop-method l = record { total : l.total ≡ cells_below l.known.app (is_reached l.known) l.method; few : l.total ≤ limit_of TagCells }
