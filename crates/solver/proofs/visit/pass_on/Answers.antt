use Rattle.std.proofs.Common.{sym, arith}
use Rattle.solver.proofs.Places.{successor_none, successor_last}
use Rattle.solver.proofs.Turns.{sure_start, sure_more, sure_every}
use Rattle.solver.proofs.Visits.{here_after}
use Rattle.solver.proofs.visit.pass_on.Goals as goal

pub pass_to-changed-requires-clause-here : goal.pass_to-changed-requires-clause-here
pass_to-changed-requires-clause-here g c = here_after _ _ _ _ _ _ _ _ _ _ _ c.loop-number.invariant.turn c.requires

pub pass_to-changed-requires-clause-way : goal.pass_to-changed-requires-clause-way
pass_to-changed-requires-clause-way g c = sym c.in-Some.ensures

pub loop-number-init : goal.loop-number-init
loop-number-init g c = sure_start _ _ _ _

pub loop-number-preserved : goal.loop-number-preserved
loop-number-preserved g c = sure_more _ _ _ _ _ _ _ _ _ _ _ c.loop-number.invariant c.pass_to-changed.ensures

pub returns-in_default : goal.returns-in_default
returns-in_default g c = sure_every _ _ _ _ _ _ _ _ (λ k le ms t e s u j has is mask. absurd (successor_none c.args.task.now.subject.now _ _ k j is _ (sym c.in_default.ensures) le)) c.loop-number.invariant

pub returns : goal.returns
returns g c = sure_every _ _ _ _ _ _ _ _ (λ k le ms t e s u j has is mask. absurd (successor_last c.args.task.now.subject.now _ _ k j is c.requires.place.facts.sound (omega (arith, c.loop-number-test.false, le)))) c.loop-number.invariant
