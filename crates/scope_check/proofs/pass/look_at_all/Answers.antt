use Rattle.std.proofs.Common.{arith}
use Rattle.scope_check.proofs.Steps.{method_done}
use Rattle.scope_check.proofs.pass.look_at_all.Goals as goal

pub loop-index-preserved : goal.loop-index-preserved
loop-index-preserved c = λ heads before. c.look_at-pass.ensures heads (c.loop-index.invariant heads before)

pub returns : goal.returns
returns c = λ heads before.
    method_done c.args.survey.now c.told.ensures heads c.args.method.0 c.loop-index.index c.loop-index.pass (c.loop-index.invariant heads before) (omega (arith, c.loop-index-test.false, c.code_len-index-end.ensures))
