-- Numbers of a DEX file: little-endian, at a place counted from the front of the file.
use Rattle.std.specs.Prelude.{ℕ, List, drop}
use Rattle.byteorder.specs.Endian.{little_number}

unfoldable pub u16_at : List ℕ → ℕ → ℕ
u16_at bs p = little_number 2 (drop p bs)

unfoldable pub u32_at : List ℕ → ℕ → ℕ
u32_at bs p = little_number 4 (drop p bs)
