use Rattle.std.proofs.Common.{◌≡◌, ◌<◌, ℕ, Some}
use Rattle.std.specs.Prelude.{slice_get}
use Rattle.fact_log.specs.declared.log.Line.{Line}
use Rattle.derivation.specs.Ends.{IsRetLine}
use Rattle.derivation.proofs.leaving.ret_line.Given as goal

abbrev pub invariant-loop-k : goal.invariant-loop-k
invariant-loop-k l = (j : ℕ) (x : Line) → j < l.k → slice_get l.lines j ≡ Some x → IsRetLine x l.method l.entry l.status → ⊥
