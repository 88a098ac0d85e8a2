-- What stands at a place of a file: LEB128 numbers one after another, and text that a zero byte ends.
use Rattle.std.specs.Prelude.{ℕ, zero, suc, ◌+◌, ◌≡◌, ◌==◌, List, length, drop, Ok, Result}
use Rattle.std.specs.List.{before_first}
use Rattle.dex_bytes.specs.declared.fault.DexFault.{DexFault}
use Rattle.dex_bytes.specs.Leb128.{groups_of, group_sum, uleb_at}

-- the unsigned LEB128 number at a place
unfoldable pub uleb_value : List ℕ → ℕ → ℕ
uleb_value bs p = group_sum (groups_of 5 (drop p bs))

-- the place after it
unfoldable pub uleb_next : List ℕ → ℕ → ℕ
uleb_next bs p = p + length (groups_of 5 (drop p bs))

-- an unsigned LEB128 number stands there, whole and of 32 bits
unfoldable pub IsUleb : List ℕ → ℕ → Type 0
IsUleb bs p = uleb_at bs p ≡ Ok (uleb_value bs p, uleb_next bs p)

-- the place of number k of those that stand one after another from a place on
unfoldable pub number_place : List ℕ → ℕ → ℕ → ℕ
number_place bs p zero = p
number_place bs p (suc k) = uleb_next bs (number_place bs p k)

-- number k of them
unfoldable pub number_at : List ℕ → ℕ → ℕ → ℕ
number_at bs p k = uleb_value bs (number_place bs p k)

-- the text at a place: the bytes before the first zero byte
unfoldable pub text_at : List ℕ → ℕ → List ℕ
text_at bs p = before_first (λ b. b == 0) (drop p bs)
