use Rattle.solver.proofs.Places.{first_place}
use Rattle.solver.proofs.Visits.{callee_there}
use Rattle.solver.proofs.approach.list_callees.Goals as goal

pub list-requires-clause-place : goal.list-requires-clause-place
list-requires-clause-place c = first_place _ _ _ _ _ _ c.requires.place (callee_there c.args.task.now.subject.now c.args.task.now.lock.0 _ _ _ _ _ c.callees-callees.ensures c.loop-number-test.true)
