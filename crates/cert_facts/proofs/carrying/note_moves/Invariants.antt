use Rattle.std.proofs.Common.{◌+◌, ◌*◌}
use Rattle.cert_facts.specs.Moves.{AreMoves}
use Rattle.cert_facts.proofs.carrying.note_moves.Given as goal

abbrev pub invariant-loop-status : goal.invariant-loop-status
invariant-loop-status l = AreMoves l.task (8 * l.component.0 + l.status) l.masks
