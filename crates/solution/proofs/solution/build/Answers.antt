use Rattle.solution.proofs.Starts.{places_start, facts_start}
use Rattle.solution.proofs.solution.build.Goals as goal

pub returns-clause-places : goal.returns-clause-places
returns-clause-places c = places_start _ c.told.ensures.reaches.methods _ c.in_ok-code.ensures _ _ _ c.in_ok-ends.ensures c.method_count.ensures c.component_count.ensures

pub returns-clause-empty : goal.returns-clause-empty
returns-clause-empty c = facts_start _ c.told.ensures.reaches.methods _ c.in_ok-code.ensures _ _ _ c.in_ok-ends.ensures c.method_count.ensures c.component_count.ensures
