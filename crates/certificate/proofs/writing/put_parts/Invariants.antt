use Rattle.std.proofs.Common.{◌≡◌, ◌++◌, take}
use Rattle.std.specs.List.{flat_map}
use Rattle.cert_line.specs.Lines.{with_feed}
use Rattle.certificate.specs.Texts.{lock_lines}
use Rattle.certificate.proofs.writing.put_parts.Given as goal

abbrev pub invariant-loop-i : goal.invariant-loop-i
invariant-loop-i l = l.out.items ≡ l.initial.out.items ++ flat_map with_feed (lock_lines 0 (take l.i l.parts))
