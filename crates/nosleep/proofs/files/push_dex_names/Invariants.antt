use Rattle.std.proofs.Common.{◌≡◌, ◌++◌, map, string_bytes, take}
use Rattle.nosleep.specs.Words.{dex_file}
use Rattle.nosleep.proofs.files.push_dex_names.Given as goal

abbrev pub invariant-loop-i : goal.invariant-loop-i
invariant-loop-i l = l.names.items ≡ l.initial.names.items ++ map dex_file (map string_bytes (take l.i l.files))
