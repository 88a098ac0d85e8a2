use Rattle.std.proofs.Common.{arith, below_more, rules}
use Rattle.fact_log.proofs.Searched.{all_states}
use Rattle.fact_log.proofs.work.Work.find_state.Goals as goal

pub loop-state-preserved : goal.loop-state-preserved
loop-state-preserved c = below_more _ _ c.loop-state.invariant (c.find_seen.ensures.none (search rules))

pub returns-clause-none : goal.returns-clause-none
returns-clause-none c = λ none. all_states _ _ _ (omega (arith, c.loop-state-test.false)) c.loop-state.invariant
