use Rattle.std.proofs.Common.{arith, below_more, rules}
use Rattle.fact_log.proofs.Searched.{all_ends}
use Rattle.fact_log.proofs.work.Work.led_by.Goals as goal

pub loop-number-preserved : goal.loop-number-preserved
loop-number-preserved c = (c.loop-number.invariant.0, below_more _ _ c.loop-number.invariant.1 (c.try_line-in-loop-number.ensures.none (search rules)))

pub returns-clause-none : goal.returns-clause-none
returns-clause-none c = λ none. all_ends _ c.args.line _ c.args.from (omega (arith, c.loop-number-test.false, c.line_count-number-end.ensures)) c.loop-number.invariant
