use Rattle.std.proofs.Common.{arith, below_more, rules}
use Rattle.fact_log.proofs.Searched.{all_whys}
use Rattle.fact_log.proofs.work.Work.find_why.Goals as goal

pub loop-from-preserved : goal.loop-from-preserved
loop-from-preserved c = (c.loop-from.invariant.0, below_more _ _ c.loop-from.invariant.1 (c.led_by.ensures.none (search rules)))

pub returns-clause-none : goal.returns-clause-none
returns-clause-none c = λ none. all_whys _ c.args.line _ (omega (arith, c.loop-from-test.false, c.line_count-from-end.ensures)) c.loop-from.invariant
