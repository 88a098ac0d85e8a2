-- A code item by offsets: sixteen bytes in front, the code units, and the rows of the tries.
use Rattle.std.specs.Prelude.{ℕ, zero, suc, ◌+◌, ◌*◌, ◌%◌, List}
use Rattle.dex_bytes.specs.Numbers.{u16_at, u32_at}

unfoldable pub code_registers : List ℕ → ℕ → ℕ
code_registers bs p = u16_at bs p

-- registers that hold the arguments, the last ones
unfoldable pub code_ins : List ℕ → ℕ → ℕ
code_ins bs p = u16_at bs (p + 2)

-- registers that the arguments of the calls made here take
unfoldable pub code_outs : List ℕ → ℕ → ℕ
code_outs bs p = u16_at bs (p + 4)

unfoldable pub code_tries : List ℕ → ℕ → ℕ
code_tries bs p = u16_at bs (p + 6)

-- how many code units there are
unfoldable pub code_len : List ℕ → ℕ → ℕ
code_len bs p = u32_at bs (p + 12)

unfoldable pub code_unit : List ℕ → ℕ → ℕ → ℕ
code_unit bs p k = u16_at bs (p + 16 + 2 * k)

-- where the row of a try begins: eight bytes a row, behind two bytes of padding where the units are odd
unfoldable pub try_place : List ℕ → ℕ → ℕ → ℕ
try_place bs p t = p + 16 + 2 * code_len bs p + 2 * (code_len bs p % 2) + 8 * t

-- the first unit that a try covers
unfoldable pub try_start : List ℕ → ℕ → ℕ → ℕ
try_start bs p t = u32_at bs (try_place bs p t)

-- how many units it covers
unfoldable pub try_count : List ℕ → ℕ → ℕ → ℕ
try_count bs p t = u16_at bs (try_place bs p t + 4)

-- where its handlers stand, counted from the beginning of the handler part
unfoldable pub try_offset : List ℕ → ℕ → ℕ → ℕ
try_offset bs p t = u16_at bs (try_place bs p t + 6)

-- the first unit behind all tries before try t
abbrev pub covered_before : List ℕ → ℕ → ℕ → ℕ
covered_before bs p zero = 0
covered_before bs p (suc t) = try_start bs p t + try_count bs p t

-- where the handler part begins, if there are tries
unfoldable pub handlers_place : List ℕ → ℕ → ℕ
handlers_place bs p = try_place bs p (code_tries bs p)
