use Rattle.std.proofs.Common.{◌≡◌, map, take}
use Rattle.dex_file.specs.Content.{proto_of}
use Rattle.dex_file.proofs.reading.copy_protos.Given as goal

abbrev pub invariant-loop-p : goal.invariant-loop-p
invariant-loop-p l = l.protos.items ≡ map (proto_of l.tables.lists) (take l.p l.tables.protos)
