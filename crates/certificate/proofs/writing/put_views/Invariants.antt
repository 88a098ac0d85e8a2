use Rattle.std.proofs.Common.{◌≡◌, ◌++◌, take, map}
use Rattle.std.specs.List.{flat_map}
use Rattle.cert_line.specs.Lines.{with_feed}
use Rattle.cert_line.specs.declared.rows.Line.TheVariants.{View}
use Rattle.certificate.proofs.writing.put_views.Given as goal

abbrev pub invariant-loop-row : goal.invariant-loop-row
invariant-loop-row l = l.out.items ≡ l.initial.out.items ++ flat_map with_feed (map View (take l.row-index l.rows))
