use Rattle.std.proofs.Common.{sym, ◌∙◌}
use Rattle.flow_model.specs.Breaks.{may_own}
use Rattle.scope_check.proofs.AnswerLaws.{none_more, none_whole}
use Rattle.scope_check.proofs.owners.owner_among.Goals as goal

pub loop-c-preserved : goal.loop-c-preserved
loop-c-preserved c =
    none_more (may_own c.args.app.now c.args.field) c.args.rows.now c.loop-c.c c.index-rows-c.result c.loop-c-test.true c.index-rows-c.is (sym c.may_own.ensures ∙ c.if-may_own.false) c.loop-c.invariant

pub returns : goal.returns
returns c = none_whole (may_own c.args.app.now c.args.field) c.args.rows.now c.loop-c.c c.loop-c-test.false c.loop-c.invariant
