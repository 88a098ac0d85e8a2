use Rattle.std.proofs.Common.{◌≡◌, ◌++◌, take, map}
use Rattle.std.specs.List.{flat_map}
use Rattle.cert_line.specs.Lines.{with_feed}
use Rattle.cert_line.specs.declared.rows.Line.TheVariants.{DexDigest}
use Rattle.certificate.proofs.writing.put_dexes.Given as goal

abbrev pub invariant-loop-digest : goal.invariant-loop-digest
invariant-loop-digest l = l.out.items ≡ l.initial.out.items ++ flat_map with_feed (map DexDigest (take l.digest-index l.digests))
