use Rattle.std.proofs.Common.{arith, below_more, rules}
use Rattle.fact_log.proofs.Searched.{all_statuses}
use Rattle.fact_log.proofs.work.Work.find_status.Goals as goal

pub loop-status-preserved : goal.loop-status-preserved
loop-status-preserved c = below_more _ _ c.loop-status.invariant (c.find_why.ensures.none (search rules))

pub returns-clause-none : goal.returns-clause-none
returns-clause-none c = λ none. all_statuses _ _ _ _ _ (omega (arith, c.loop-status-test.false)) c.loop-status.invariant
