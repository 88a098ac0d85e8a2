use Rattle.std.proofs.Common.{◌≡◌, ◌+◌, ◌≤◌, length}
use Rattle.cert_line.specs.Reading.{pieces}
use Rattle.certificate.specs.declared.reading.Place.TheVariants as places
use Rattle.certificate.specs.Reading.{read}
use Rattle.certificate.proofs.reading.lines.Given as goal

abbrev pub invariant-loop-line : goal.invariant-loop-line
invariant-loop-line l = record {
  so_far : read l.cert l.place l.number (pieces 10 l.rest) ≡ read l.fn.cert places.Start 1 (pieces 10 l.bytes);
  count : l.number + length l.rest ≤ length l.bytes + 1;
}

abbrev pub decreases-loop-line : goal.decreases-loop-line
decreases-loop-line l = length l.rest
