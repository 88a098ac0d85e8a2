use Rattle.std.proofs.Common.{arith}
use Rattle.cert_check.proofs.Leading.{calls_one, calls_none}
use Rattle.cert_check.proofs.Searches.{none_more}
use Rattle.cert_check.proofs.inside.calls_out.Goals as goal

pub loop-k-preserved : goal.loop-k-preserved
loop-k-preserved c = none_more _ _ _ c.loop-k.invariant (calls_one _ _ _ c.callees-callees.result.now c.loop-k.k _ _ (omega (arith, c.loop-k-test.true)) c.call_out.ensures) c.if-call_out.false

pub returns : goal.returns
returns c = calls_none _ _ _ _ c.callees-callees.ensures.callees (λ k lt. c.loop-k.invariant k (omega (arith, lt, c.loop-k-test.false)))
