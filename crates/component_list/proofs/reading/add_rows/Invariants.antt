use Rattle.std.proofs.Common.{◌≡◌, Ok, []}
use Rattle.ns_base.specs.Steps.{reached}
use Rattle.toml.specs.View.{array_view}
use Rattle.component_list.specs.Reading.{add_row}
use Rattle.component_list.proofs.reading.add_rows.Given as goal

abbrev pub invariant-loop-place : goal.invariant-loop-place
invariant-loop-place l = reached (add_row (array_view l.components)) [] l.place ≡ Ok l.rows
