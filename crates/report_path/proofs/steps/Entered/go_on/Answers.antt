use Rattle.std.proofs.Common.{below_more}
use Rattle.report_path.proofs.steps.Entered.go_on.Goals as goal

pub loop-k-preserved : goal.loop-k-preserved
loop-k-preserved c = below_more _ _ c.loop-k.invariant (c.goes_on.ensures.0 c.if-not-goes_on.false)
