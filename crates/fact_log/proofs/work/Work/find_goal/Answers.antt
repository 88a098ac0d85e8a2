use Rattle.std.proofs.Common.{arith, below_more, rules}
use Rattle.fact_log.proofs.Searched.{all_goals}
use Rattle.fact_log.proofs.work.Work.find_goal.Goals as goal

pub loop-index-preserved : goal.loop-index-preserved
loop-index-preserved c = (c.loop-index.invariant.0, c.loop-index.invariant.1, below_more _ _ c.loop-index.invariant.2 (c.find_entry-in-loop-index.ensures.none (search rules)))

pub returns-clause-none : goal.returns-clause-none
returns-clause-none c = λ none. all_goals _ _ _ c.told.ensures (omega (arith, c.loop-index-test.false, c.place_count-index-end.ensures)) c.loop-index.invariant
