use Rattle.std.proofs.Common.{◌<◌, ℕ, Option}
use Rattle.derivation.specs.Ends.{LeavesFrom}
use Rattle.derivation.proofs.leaving.exit_of.Given as goal

abbrev pub invariant-loop-n : goal.invariant-loop-n
invariant-loop-n l = (n e : ℕ) (end : Option ℕ) → n < l.n → e < 16 → LeavesFrom l.subject l.bad l.log.lines.items l.log.views.items n e end → ⊥
