use Rattle.std.proofs.Common.{◌≡◌, drop, length}
use Rattle.dex_code.specs.Alike.{AreKeptNumbers}
use Rattle.method_graph.specs.Operands.{AreSums}
use Rattle.dex_file.specs.Exact.{reached}
use Rattle.dex_file.specs.Reading.{with_class, classes_at}
use Rattle.dex_file.proofs.classes.read_classes.Given as goal

abbrev pub invariant-loop-c : goal.invariant-loop-c
invariant-loop-c l = record {
  rest : reached (with_class l.bytes l.tables.lists) l.read (drop l.c l.tables.classes) ≡ classes_at l.bytes l.tables;
  numbers : AreKeptNumbers l.bytes l.numbers;
  params : AreSums l.bytes l.params;
  count : length l.read.classes ≡ l.c;
}
