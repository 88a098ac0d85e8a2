use Rattle.std.proofs.Common.{◌*◌}
use Rattle.cert_facts.specs.Moves.{AreMoves}
use Rattle.cert_facts.proofs.carrying.note_all.Given as goal

abbrev pub invariant-loop-component : goal.invariant-loop-component
invariant-loop-component l = AreMoves l.task (8 * l.component) l.masks
