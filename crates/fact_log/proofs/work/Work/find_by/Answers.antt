use Rattle.std.proofs.Common.{arith, below_more, rules}
use Rattle.fact_log.proofs.Searched.{all_bys}
use Rattle.fact_log.proofs.work.Work.find_by.Goals as goal

pub loop-first-preserved : goal.loop-first-preserved
loop-first-preserved c = (c.loop-first.invariant.0, c.loop-first.invariant.1, below_more _ _ c.loop-first.invariant.2 (c.find_mover-in-loop-first.ensures.none (search rules)))

pub returns-clause-none : goal.returns-clause-none
returns-clause-none c = λ none. all_bys _ c.args.view _ (omega (arith, c.loop-first-test.false, c.view_count-first-end.ensures)) c.loop-first.invariant
