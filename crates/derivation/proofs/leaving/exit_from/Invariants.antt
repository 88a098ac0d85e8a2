use Rattle.std.proofs.Common.{◌<◌, ℕ, Option}
use Rattle.derivation.specs.Ends.{LeavesBy}
use Rattle.derivation.proofs.leaving.exit_from.Given as goal

abbrev pub invariant-loop-number : goal.invariant-loop-number
invariant-loop-number l = (e : ℕ) (end : Option ℕ) → e < l.number → LeavesBy l.subject l.bad l.lines l.v e end → ⊥
