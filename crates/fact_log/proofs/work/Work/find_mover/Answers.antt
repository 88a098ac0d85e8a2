use Rattle.std.proofs.Common.{arith, below_more, rules}
use Rattle.fact_log.proofs.Searched.{all_movers}
use Rattle.fact_log.proofs.work.Work.find_mover.Goals as goal

pub loop-mover-preserved : goal.loop-mover-preserved
loop-mover-preserved c = below_more _ _ c.loop-mover.invariant (c.find_edge.ensures.none (search rules))

pub returns-clause-none : goal.returns-clause-none
returns-clause-none c = λ none. all_movers _ c.args.view c.args.first _ (omega (arith, c.loop-mover-test.false, c.view_count-mover-end.ensures)) c.loop-mover.invariant
