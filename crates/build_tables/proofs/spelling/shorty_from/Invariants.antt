use Rattle.std.proofs.Common.{◌≡◌, ◌++◌, map, drop, string_bytes}
use Rattle.build_tables.specs.Spelling.{initials_of, shorty_of}
use Rattle.build_tables.proofs.spelling.shorty_from.Given as goal

abbrev pub invariant-loop-param : goal.invariant-loop-param
invariant-loop-param l = l.out.items ++ initials_of (map string_bytes (drop l.param-index l.params)) ≡ shorty_of l.initial.gives (map string_bytes l.initial.params)
