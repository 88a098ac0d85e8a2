use Rattle.std.proofs.Common.{ℕ, ◌<◌, get_or}
use Rattle.cert_line.specs.Parts.{BodyParts}
use Rattle.cert_facts.specs.Shape.{FitsBody}
use Rattle.cert_facts.proofs.shape.fit_bodies.Given as goal

abbrev pub invariant-loop-row : goal.invariant-loop-row
invariant-loop-row l = (k : ℕ) (d : BodyParts) → k < l.row-index → FitsBody l.subject (get_or l.rows k d)
