use Rattle.std.proofs.Common.{arith, below_more, rules}
use Rattle.fact_log.proofs.Searched.{all_lines}
use Rattle.fact_log.proofs.work.Work.find_line.Goals as goal

pub loop-method-preserved : goal.loop-method-preserved
loop-method-preserved c = below_more _ _ c.loop-method.invariant (c.find_goal.ensures.none (search rules))

pub returns-clause-none : goal.returns-clause-none
returns-clause-none c = λ none. all_lines _ _ c.told.ensures (omega (arith, c.loop-method-test.false, c.method_count-method-end.ensures)) c.loop-method.invariant
