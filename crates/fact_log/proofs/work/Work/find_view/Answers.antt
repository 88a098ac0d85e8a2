use Rattle.std.proofs.Common.{arith, below_more, rules}
use Rattle.fact_log.proofs.Searched.{all_views}
use Rattle.fact_log.proofs.work.Work.find_view.Goals as goal

pub loop-component-preserved : goal.loop-component-preserved
loop-component-preserved c = below_more _ _ c.loop-component.invariant (c.find_state.ensures.none (search rules))

pub returns-clause-none : goal.returns-clause-none
returns-clause-none c = λ none. all_views _ _ c.told.ensures (omega (arith, c.loop-component-test.false, c.component_count-component-end.ensures)) c.loop-component.invariant
