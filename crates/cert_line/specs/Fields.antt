-- How the fields of a line are spelled.
use Rattle.std.specs.Prelude.{ℕ, ◌+◌, ◌/◌, ◌%◌, List, [], ◌∷◌, nat_lt, if◌then◌else◌, flat_map, codes, slice_index_or}

-- ---- bytes, as two lower-case hexadecimal digits
abbrev pub hex_digit : ℕ → ℕ
hex_digit n = if nat_lt n 10 then 48 + n else 87 + n

abbrev pub hex_byte : ℕ → List ℕ
hex_byte m = hex_digit (m / 16) ∷ hex_digit (m % 16) ∷ []

abbrev pub hex_bytes : List ℕ → List ℕ
hex_bytes ms = flat_map hex_byte ms

-- ---- statuses, by their names
abbrev pub status_names : List (List ℕ)
status_names =
    codes "A" ∷ codes "C0" ∷ codes "C1" ∷ codes "C2" ∷ codes "CT" ∷ codes "U0" ∷ codes "U1" ∷ codes "L" ∷ []

abbrev pub status_name : ℕ → List ℕ
status_name s = slice_index_or status_names s []
