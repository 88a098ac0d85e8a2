use Rattle.solution.specs.Facts.{place_count}
use Rattle.solution.specs.Starts.{AreEmpty}
use Rattle.solution.proofs.solution.empty_code.Given as goal

abbrev pub invariant-loop-method : goal.invariant-loop-method
invariant-loop-method l = AreEmpty (place_count l.subject) l.method l.code
