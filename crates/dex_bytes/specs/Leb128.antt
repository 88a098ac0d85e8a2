-- Numbers in LEB128: groups of seven bits, the lowest first, each in a byte whose top bit says that more follow.
use Rattle.std.specs.Prelude.{ℕ, ℤ, pos, zero, suc, ◌+◌, ◌-◌, ◌*◌, ◌%◌, ◌^◌, ◌-ℤ◌, min, List, [], ◌∷◌, length, drop, Bool, true, false, nat_lt, nat_le, ◌&&◌, ◌||◌, if◌then◌else◌, Result, Ok, Err}
use Rattle.dex_bytes.specs.declared.fault.DexFault.{DexFault}
use Rattle.dex_bytes.specs.declared.fault.DexFault.TheVariants.{Short, Leb}

-- the bytes of the number at the front: up to and with the first without the top bit, n at most
abbrev pub groups_of : ℕ → List ℕ → List ℕ
groups_of zero bs = []
groups_of (suc n) [] = []
groups_of (suc n) (b ∷ bs) = b ∷ (if nat_lt b 128 then [] else groups_of n bs)

-- the last of these bytes is at most this
abbrev pub ends_at_most : ℕ → List ℕ → Bool
ends_at_most most [] = false
ends_at_most most (b ∷ []) = nat_le b most
ends_at_most most (b ∷ c ∷ bs) = ends_at_most most (c ∷ bs)

-- the number that groups of seven bits spell, the lowest first
abbrev pub group_sum : List ℕ → ℕ
group_sum [] = 0
group_sum (b ∷ bs) = b % 128 + 128 * group_sum bs

-- the bytes end before the number does
abbrev pub is_cut : List ℕ → Bool
is_cut groups = nat_lt (length groups) 5 && (if ends_at_most 127 groups then false else true)

-- an unsigned number of these groups: of a fifth only four bits are allowed
abbrev pub uleb_of : ℕ → List ℕ → Result (ℕ × ℕ) DexFault
uleb_of p groups =
    if is_cut groups then Err (Short p)
    else if nat_lt (length groups) 5 || ends_at_most 15 groups then Ok (group_sum groups, p + length groups)
    else Err (Leb p)

-- the unsigned number at a place, and the place after it
unfoldable pub uleb_at : List ℕ → ℕ → Result (ℕ × ℕ) DexFault
uleb_at bs p = uleb_of p (groups_of 5 (drop p bs))

-- the lowest bits of n as a number in two's complement, where half is the weight of the highest of them
abbrev pub twos_complement : ℕ → ℕ → ℤ
twos_complement half n =
    if nat_lt (n % (2 * half)) half then pos (n % (2 * half)) else pos (n % (2 * half)) -ℤ pos (2 * half)

-- the weight of the sign in so many groups: the highest bit, or that of 32 bits where the groups have more
abbrev pub sign_weight : ℕ → ℕ
sign_weight count = 2 ^ (min 32 (7 * count) - 1)

-- what the groups of a signed number spell, and how many they are: of a fifth all seven bits are allowed
abbrev pub spelled_by : ℕ → List ℕ → Result (ℕ × ℕ) DexFault
spelled_by p groups =
    if is_cut groups then Err (Short p)
    else if ends_at_most 127 groups then Ok (group_sum groups, length groups)
    else Err (Leb p)

unfoldable pub spelled_at : List ℕ → ℕ → Result (ℕ × ℕ) DexFault
spelled_at bs p = spelled_by p (groups_of 5 (drop p bs))

-- a signed number is its groups in two's complement, without the bits past the 32nd
abbrev pub sleb_of : ℕ → Result (ℕ × ℕ) DexFault → Result (ℤ × ℕ) DexFault
sleb_of p (Ok (bits, count)) = Ok (twos_complement (sign_weight count) bits, p + count)
sleb_of p (Err fault) = Err fault

-- the signed number at a place, and the place after it
unfoldable pub sleb_at : List ℕ → ℕ → Result (ℤ × ℕ) DexFault
sleb_at bs p = sleb_of p (spelled_at bs p)
