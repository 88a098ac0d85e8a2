use Rattle.std.proofs.Common.{◌≡◌, ◌∷◌, map, take, slice_index}
use Rattle.app_rows.proofs.numbers.spell_proto.Given as goal

abbrev pub invariant-loop-param : goal.invariant-loop-param
invariant-loop-param l = l.numbers.items ≡ slice_index l.types l.proto.result ∷ map (slice_index l.types) (take l.param-index l.proto.params)
