use Rattle.std.proofs.Common.{map}
use Rattle.std.specs.List.{All}
use Rattle.dex_file.specs.Sizes.{IsShort}
use Rattle.nosleep.specs.Files.{AreReadTo}
use Rattle.nosleep.proofs.contents.read_contents.Given as goal

abbrev pub invariant-loop-i : goal.invariant-loop-i
invariant-loop-i l = record {
  read : AreReadTo (map (λ bytes. bytes.items) l.files) l.i l.parts.items;
  short : All IsShort l.parts.items;
}
