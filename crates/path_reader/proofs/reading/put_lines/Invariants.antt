use Rattle.std.proofs.Common.{◌≡◌, ◌+◌, ◌≤◌, length}
use Rattle.cert_line.specs.Reading.{pieces}
use Rattle.path_reader.specs.Reading.{read}
use Rattle.path_reader.proofs.reading.put_lines.Given as goal

abbrev pub invariant-loop-line : goal.invariant-loop-line
invariant-loop-line l = record {
  so_far : read l.reader l.number (pieces 10 l.rest) ≡ read l.fn.reader 1 (pieces 10 l.bytes);
  count : l.number + length l.rest ≤ length l.bytes + 1;
}

abbrev pub decreases-loop-line : goal.decreases-loop-line
decreases-loop-line l = length l.rest
