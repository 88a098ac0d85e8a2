-- One more number of a payload.
use Rattle.std.proofs.Common.{◌≡◌, ℕ, ◌+◌, ◌*◌, List, [], ◌∷◌, ◌++◌, arith}
use Rattle.std.specs.Int.{cast_signed, w32}
use Rattle.std.proofs.lemmas.List.FromFn.{map-range_with_len_more}
use Rattle.dalvik_decode.specs.Operands.{word_at}
use Rattle.dalvik_decode.specs.Payloads.{numbers_at}

pub numbers_more : (code : List ℕ) (place k : ℕ) → numbers_at code place (k + 1) ≡ numbers_at code place k ++ cast_signed w32 (word_at code (place + 2 * k)) ∷ []
unfolding numbers_at
numbers_more code place k = map-range_with_len_more (λ i. cast_signed w32 (word_at code (place + 2 * i))) 0 k k (omega arith)
