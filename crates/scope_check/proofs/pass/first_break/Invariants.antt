use Rattle.scope_check.specs.Passing.{IsPass}
use Rattle.scope_check.proofs.pass.first_break.Given as goal

abbrev pub invariant-loop-method : goal.invariant-loop-method
invariant-loop-method l = IsPass l.survey l.method l.method 0 l.pass
