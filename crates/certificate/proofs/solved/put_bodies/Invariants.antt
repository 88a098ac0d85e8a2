use Rattle.std.proofs.Common.{◌≡◌, ◌++◌, map}
use Rattle.std.specs.List.{filter}
use Rattle.cert_line.specs.Lines.{has_fact}
use Rattle.solution.specs.Facts.{holds}
use Rattle.certificate.specs.Solved.{body_row, numbers_below}
use Rattle.certificate.proofs.solved.put_bodies.Given as goal

abbrev pub invariant-loop-entry : goal.invariant-loop-entry
invariant-loop-entry l = l.rows.items ≡ l.initial.rows.items ++ filter has_fact (map (body_row (holds l.solution) l.code.method.0 l.code.len) (numbers_below l.entry))
