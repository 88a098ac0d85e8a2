use Rattle.std.proofs.Common.{◌≡◌, ◌≤◌, length, map}
use Rattle.nosleep.specs.Answer.{AreTakenTo}
use Rattle.nosleep.specs.Events.{reads_from}
use Rattle.nosleep.specs.Reading.{KeepsShelf}
use Rattle.nosleep.proofs.files.take_files.Given as goal

abbrev pub invariant-loop-i : goal.invariant-loop-i
invariant-loop-i g l = record {
  taken : AreTakenTo (g.F.Shelf.content l.initial.shelf) l.names l.i (map (λ bytes. bytes.items) l.all.items);
  told : l.events.items ≡ reads_from 0 (map (λ bytes. bytes.items) l.all.items);
  few : length l.names ≤ 18;
  keeps : KeepsShelf g.F.Shelf.content g.F.Shelf.faults l.initial.shelf l.shelf;
}
