use Rattle.std.proofs.Common.{arith}
use Rattle.view_solver.proofs.Judged.{listed_at}
use Rattle.view_solver.proofs.judging.list_component.Goals as goal

pub loop-callback-init : goal.loop-callback-init
loop-callback-init c = listed_at _ _ _ _ _ _ (omega arith) c.requires.listed

pub returns : goal.returns
returns c = listed_at _ _ _ _ _ _ (omega (arith, c.loop-callback-test.false, c.loop-callback.auto.callback-end)) c.loop-callback.invariant
