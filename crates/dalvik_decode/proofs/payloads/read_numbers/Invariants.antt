use Rattle.std.proofs.Common.{◌≡◌}
use Rattle.dalvik_decode.specs.Payloads.{numbers_at}
use Rattle.dalvik_decode.proofs.payloads.read_numbers.Given as goal

abbrev pub invariant-loop-k : goal.invariant-loop-k
invariant-loop-k l = l.numbers.items ≡ numbers_at l.code l.place l.k
