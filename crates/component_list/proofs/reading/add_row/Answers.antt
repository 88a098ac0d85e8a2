use Rattle.std.proofs.Common.{sym}
use Rattle.toml.specs.View.{array_view}
use Rattle.component_list.proofs.RowLaws.{add_row-nothing, gives_fault}
use Rattle.component_list.proofs.reading.add_row.Goals as goal

pub returns-in_default : goal.returns-in_default
returns-in_default c = gives_fault _ c.refuse_key.result _ _ c.refuse_key.ensures (add_row-nothing (array_view c.args.components.now) c.args.place c.args.rows.now (sym c.in_default.ensures))
