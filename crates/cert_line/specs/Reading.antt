-- How the fields of a line are read, and the line that they are.
use Rattle.std.specs.Prelude.{ℕ, suc, ◌+◌, ◌-◌, ◌*◌, ◌^◌, List, [], ◌∷◌, length, Option, Some, None, option_map, nat_lt, ◌==◌, ◌&&◌, if◌then◌else◌, codes, bytes_eq}
use Rattle.std.specs.List.{slice_split}
use Rattle.std.specs.Char.{is_ascii_digit}
use Rattle.cert_line.specs.Fields.{status_names}
use Rattle.cert_line.specs.Lines.{is_shown, has_fact}
use Rattle.cert_line.specs.Parts.{BodyParts, NameParts}
use Rattle.cert_line.specs.declared.rows.ViewRow.{ViewRow}
use Rattle.cert_line.specs.declared.rows.Line.{Line}
use Rattle.cert_line.specs.declared.rows.Line.TheVariants.{Version, ListDigest, DexDigest, Lock, View, Body, End}

infixl 10 ◌>>=◌
abbrev pub ◌>>=◌ : {A B : Type 0} → Option A → (A → Option B) → Option B
Some x >>= f = f x
None >>= f = None

-- the pieces of bytes, cut at each byte that is c
abbrev pub pieces : ℕ → List ℕ → List (List ℕ)
pieces c bytes = slice_split (λ b. b == c) bytes

-- ---- numbers in decimal

-- the number with one more digit, below 2 ^ 64
unfoldable pub next_in : ℕ → ℕ → Option ℕ
next_in n c = if is_ascii_digit c && nat_lt (n * 10 + (c - 48)) (2 ^ 64) then Some (n * 10 + (c - 48)) else None

unfoldable pub number_from : ℕ → List ℕ → Option ℕ
number_from n [] = Some n
number_from n (c ∷ cs) = next_in n c >>= λ m. number_from m cs

-- no sign and no leading zero
unfoldable pub number_in : List ℕ → Option ℕ
number_in [] = None
number_in (c ∷ cs) = if c == 48 && nat_lt 0 (length cs) then None else number_from 0 (c ∷ cs)

unfoldable pub below_in : ℕ → List ℕ → Option ℕ
below_in limit field = number_in field >>= λ n. if nat_lt n limit then Some n else None

-- ---- bytes as lower-case hexadecimal digits
unfoldable pub digit_in : ℕ → Option ℕ
digit_in c = if nat_lt 47 c && nat_lt c 58 then Some (c - 48) else (if nat_lt 96 c && nat_lt c 103 then Some (c - 87) else None)

unfoldable pub mask_in : ℕ → ℕ → Option ℕ
mask_in a b = digit_in a >>= λ high. digit_in b >>= λ low. Some (16 * high + low)

unfoldable pub byte_in : List ℕ → Option ℕ
byte_in (a ∷ b ∷ []) = mask_in a b
byte_in _ = None

unfoldable pub masks_in : List ℕ → Option (List ℕ)
masks_in [] = Some []
masks_in (a ∷ []) = None
masks_in (a ∷ b ∷ rest) = mask_in a b >>= λ m. masks_in rest >>= λ ms. Some (m ∷ ms)

-- ---- names of statuses

-- the place of a name among some, the first of which is number n
abbrev pub place_from : ℕ → List (List ℕ) → List ℕ → Option ℕ
place_from n [] name = None
place_from n (x ∷ xs) name = if bytes_eq name x then Some n else place_from (suc n) xs name

unfoldable pub status_in : List ℕ → Option ℕ
status_in name = place_from 0 status_names name

-- ---- lines by their fields

-- the fields of what is left of a line, if anything is
abbrev pub left : Option (List ℕ) → List (List ℕ)
left None = []
left (Some rest) = pieces 32 rest

-- exactly so many fields
abbrev pub two : List (List ℕ) → Option (List ℕ × List ℕ)
two (a ∷ b ∷ []) = Some (a, b)
two _ = None

abbrev pub three : List (List ℕ) → Option (List ℕ × List ℕ × List ℕ)
three (a ∷ b ∷ c ∷ []) = Some (a, b, c)
three _ = None

abbrev pub five : List (List ℕ) → Option (List ℕ × List ℕ × List ℕ × List ℕ × List ℕ)
five (a ∷ b ∷ c ∷ d ∷ e ∷ []) = Some (a, b, c, d, e)
five _ = None

unfoldable pub version_in : List (List ℕ) → Option Line
version_in (n ∷ []) = if bytes_eq n (codes "1") then Some Version else None
version_in _ = None

unfoldable pub end_in : List (List ℕ) → Option Line
end_in [] = Some End
end_in _ = None

unfoldable pub digest_bytes_in : List ℕ → Option (List ℕ)
digest_bytes_in d = masks_in d >>= λ ms. if length ms == 20 then Some ms else None

unfoldable pub digest_in : List (List ℕ) → Option (List ℕ)
digest_in (d ∷ []) = digest_bytes_in d
digest_in _ = None

unfoldable pub lock_in : List (List ℕ) → Option NameParts
lock_in fs =
    two fs >>= λ f. number_in f.0 >>= λ k. if is_shown f.1 then Some (record { number = k; shown = f.1 }) else None

unfoldable pub view_from : ℕ → ℕ → ℕ → Option ViewRow
view_from c q m = if nat_lt 0 m then Some (record { component = c; state = q; mask = m }) else None

unfoldable pub view_in : List (List ℕ) → Option ViewRow
view_in fs =
    three fs >>= λ f. below_in (2 ^ 32) f.0 >>= λ c. below_in 256 f.1 >>= λ q. byte_in f.2 >>= λ m. view_from c q m

unfoldable pub body_from : ℕ → ℕ → ℕ → ℕ → List ℕ → Option BodyParts
body_from m s r e ms =
    let b : BodyParts = record { method = m; entry = s; ret = r; exc = e; masks = ms } in
    if nat_lt 0 (length ms) && has_fact b then Some b else None

unfoldable pub body_in : List (List ℕ) → Option BodyParts
body_in fs =
    five fs >>= λ f. below_in (2 ^ 32) f.0 >>= λ m. status_in f.1 >>= λ s. byte_in f.2 >>= λ r. byte_in f.3 >>= λ e. masks_in f.4 >>= λ ms.
    body_from m s r e ms

unfoldable pub head_in : List ℕ → List (List ℕ) → Option Line
head_in word more =
    if bytes_eq word (codes "dex") then option_map DexDigest (digest_in more) else
    if bytes_eq word (codes "list") then option_map ListDigest (digest_in more) else
    if bytes_eq word (codes "nosleep") then version_in more else
    if bytes_eq word (codes "end") then end_in more else None

unfoldable pub line_in : List (List ℕ) → Option Line
line_in [] = None
line_in (word ∷ more) =
    if bytes_eq word (codes "view") then option_map View (view_in more) else
    if bytes_eq word (codes "body") then option_map Body (body_in more) else
    if bytes_eq word (codes "lock") then option_map Lock (lock_in more) else head_in word more

-- the line that bytes spell
unfoldable pub line_at : List ℕ → Option Line
line_at bytes = line_in (pieces 32 bytes)
