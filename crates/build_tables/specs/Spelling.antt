-- How texts are spelled in a file. A text comes as its UTF-8 bytes.
use Rattle.std.specs.Prelude.{ℕ, ◌+◌, ◌-◌, ◌*◌, ◌/◌, ◌%◌, List, [], ◌∷◌, ◌++◌, take, ◌==◌, nat_lt, if◌then◌else◌}

-- a UTF-16 unit in three bytes
abbrev pub unit_bytes : ℕ → List ℕ
unit_bytes u = (224 + u / 4096 % 16) ∷ (128 + u / 64 % 64) ∷ (128 + u % 64) ∷ []

-- how far the character of these four bytes is past U+FFFF
abbrev pub past_first_plane : (a b c d : ℕ) → ℕ
past_first_plane a b c d = ((a % 8 * 64 + b % 64) * 4096 + (c % 64 * 64 + d % 64)) - 65536

-- its two surrogates, for a character that is so far past U+FFFF
abbrev pub surrogate_bytes : ℕ → List ℕ
surrogate_bytes x = unit_bytes (55296 + x / 1024) ++ unit_bytes (56320 + x % 1024)

-- a byte of a character up to U+FFFF stays, but that U+0000 has two bytes
abbrev pub kept_byte : ℕ → List ℕ
kept_byte b = if b == 0 then 192 ∷ 128 ∷ [] else b ∷ []

-- MUTF-8
unfoldable pub mutf8_of : List ℕ → List ℕ
mutf8_of [] = []
mutf8_of (a ∷ []) = kept_byte a ++ []
mutf8_of (a ∷ b ∷ []) = kept_byte a ++ mutf8_of (b ∷ [])
mutf8_of (a ∷ b ∷ c ∷ []) = kept_byte a ++ mutf8_of (b ∷ c ∷ [])
mutf8_of (a ∷ b ∷ c ∷ d ∷ more) =
    if nat_lt a 240 then kept_byte a ++ mutf8_of (b ∷ c ∷ d ∷ more)
    else surrogate_bytes (past_first_plane a b c d) ++ mutf8_of more

-- how many bytes go on the character that this byte begins
abbrev pub trails_after : ℕ → ℕ
trails_after b = if nat_lt b 192 then 0 else if nat_lt b 224 then 1 else if nat_lt b 240 then 2 else 3

-- the first character of a descriptor, with "L" for "["
abbrev pub initial_of : List ℕ → List ℕ
initial_of [] = []
initial_of (b ∷ more) = if b == 91 then 76 ∷ [] else b ∷ take (trails_after b) more

abbrev pub initials_of : List (List ℕ) → List ℕ
initials_of [] = []
initials_of (name ∷ names) = initial_of name ++ initials_of names

-- the shorty of a prototype: the result first
abbrev pub shorty_of : List ℕ → List (List ℕ) → List ℕ
shorty_of gives params = initial_of gives ++ initials_of params
