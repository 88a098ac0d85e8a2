use Rattle.std.proofs.Common.{◌≤◌, ◌<◌, ◌-◌, ◌+◌, length, vec_len}
use Rattle.ns_base.specs.Answers.{limit_of}
use Rattle.nosleep.specs.Reading.{IsFront, WhereTold, KeepsShelf}
use Rattle.nosleep.proofs.reading.read_pieces.Given as goal

abbrev pub invariant-loop-ending : goal.invariant-loop-ending
invariant-loop-ending g l = record {
  room : 0 < length l.buffer;
  below : vec_len l.bytes ≤ limit_of l.which;
  front : WhereTold (g.F.Shelf.content l.initial.shelf l.name) (λ bs. IsFront l.bytes.items bs);
  keeps : KeepsShelf g.F.Shelf.content g.F.Shelf.faults l.initial.shelf l.shelf;
}

abbrev pub decreases-loop-ending : goal.decreases-loop-ending
decreases-loop-ending g l = (limit_of l.which + 1) - vec_len l.bytes
