use Rattle.std.proofs.Common.{ℕ}
use Rattle.scope_check.specs.Passing.{IsPass}
use Rattle.scope_check.proofs.pass.look_past_all.Given as goal

abbrev pub invariant-loop-index : goal.invariant-loop-index
invariant-loop-index l = (heads : ℕ) → IsPass l.survey heads l.method.0 0 l.fn.start → IsPass l.survey heads l.method.0 l.index l.pass
