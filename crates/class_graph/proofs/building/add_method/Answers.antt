use Rattle.std.proofs.Common.{eqb}
use Rattle.class_graph.specs.Built.{is_method}
use Rattle.class_graph.proofs.Rows.{abstract_off, concrete_on, members_more, members_same}
use Rattle.class_graph.proofs.building.add_method.Goals as goal

pub returns-then-row-ne0 : goal.returns-then-row-ne0
returns-then-row-ne0 c =
    members_same is_method _ c.args.method.0 c.method-row.result.now c.method-row.ensures.is _ (λ name second class. abstract_off (eqb c.method-row.result.now.class.0 class) (eqb c.method-row.result.now.name.0 name) (eqb c.method-row.result.now.proto.0 second) _ c.if-row-ne0.true) c.requires.before

pub returns : goal.returns
returns c =
    members_more is_method _ c.args.method.0 c.method-row.result.now c.method-row.ensures.is _ _ (record { class = c.method-row.result.now.class.0; name = c.method-row.result.now.name.0; second = c.method-row.result.now.proto.0 })
    (λ name second class. concrete_on (eqb c.method-row.result.now.class.0 class) (eqb c.method-row.result.now.name.0 name) (eqb c.method-row.result.now.proto.0 second) _ c.if-row-ne0.false) c.in_ok-add.ensures c.requires.before
