use Rattle.std.proofs.Common.{refl}
use Rattle.class_graph.specs.Built.{is_field}
use Rattle.class_graph.proofs.Rows.{members_more}
use Rattle.class_graph.proofs.building.add_field.Goals as goal

pub returns : goal.returns
returns c = members_more is_field _ c.args.field.0 c.field-row.result.now c.field-row.ensures.is _ _ (record { class = c.field-row.result.now.class.0; name = c.field-row.result.now.name.0; second = c.field-row.result.now.kind.0 }) (λ name second class. refl) c.in_ok-add.ensures c.requires.before
