use Rattle.std.proofs.Common.{arith, below_more, rules}
use Rattle.fact_log.proofs.Searched.{all_edges}
use Rattle.fact_log.proofs.work.Work.find_edge.Goals as goal

pub loop-edge-preserved : goal.loop-edge-preserved
loop-edge-preserved c = below_more _ _ c.loop-edge.invariant (c.find_body.ensures.none (search rules))

pub returns-clause-none : goal.returns-clause-none
returns-clause-none c = λ none. all_edges _ c.args.view c.args.first c.args.mover _ (omega (arith, c.loop-edge-test.false)) c.loop-edge.invariant
