use Rattle.scope_check.specs.Answering.{AcquiresAt}
use Rattle.scope_facts.proofs.BitLaws.{none_below, one_more_below}
use Rattle.scope_check.proofs.answers.acquired_in.Goals as goal

pub loop-index-init : goal.loop-index-init
loop-index-init c = none_below (AcquiresAt c.args.survey.now.case c.args.method.0)

pub loop-index-preserved : goal.loop-index-preserved
loop-index-preserved c = one_more_below (AcquiresAt c.args.survey.now.case c.args.method.0) c.loop-index.index c.loop-index.mask c.acquired_at-mask.result c.loop-index.invariant c.acquired_at-mask.ensures
