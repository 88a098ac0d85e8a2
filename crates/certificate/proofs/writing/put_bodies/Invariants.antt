use Rattle.std.proofs.Common.{◌≡◌, ◌++◌, take, map}
use Rattle.std.specs.List.{flat_map}
use Rattle.cert_line.specs.Lines.{with_feed}
use Rattle.cert_line.specs.declared.rows.Line.TheVariants.{Body}
use Rattle.certificate.proofs.writing.put_bodies.Given as goal

abbrev pub invariant-loop-row : goal.invariant-loop-row
invariant-loop-row l = l.out.items ≡ l.initial.out.items ++ flat_map with_feed (map Body (take l.row-index l.rows))
