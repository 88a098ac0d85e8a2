use Rattle.std.proofs.Common.{◌≡◌, ◌++◌, length}
use Rattle.build_tables.specs.Spelling.{mutf8_of}
use Rattle.build_tables.proofs.spelling.mutf8_from.Given as goal

abbrev pub invariant-loop-rest : goal.invariant-loop-rest
invariant-loop-rest l = l.out.items ++ mutf8_of l.rest ≡ mutf8_of l.initial.text

abbrev pub decreases-loop-rest : goal.decreases-loop-rest
decreases-loop-rest l = length l.rest
