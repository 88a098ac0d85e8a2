-- MUTF-8: UTF-16 units in one, two or three bytes each. U+0000 has two, so that no byte is zero.
use Rattle.std.specs.Prelude.{ℕ, suc, ◌≡◌, ◌+◌, ◌-◌, ◌<◌, ◌≤◌, List, [], ◌∷◌, ◌++◌, length, take, drop, slice_index, nat_lt, nat_le, ◌&&◌, ◌==◌, if◌then◌else◌, Option, Some, None, Result, Ok, Err}
use Rattle.dex_bytes.specs.declared.fault.DexFault.{DexFault}
use Rattle.dex_bytes.specs.declared.fault.DexFault.TheVariants.{Short, Mutf8}
use Rattle.dex_bytes.specs.declared.text.Wanted.{Wanted}
use Rattle.dex_bytes.specs.declared.text.Step.{Step}
use Rattle.dex_bytes.specs.declared.text.Step.TheVariants.{More, End, Fault}

-- the byte goes on a unit that another one began
abbrev pub IsTrail : ℕ → Type 0
IsTrail b = (128 ≤ b) × (b < 192)

-- these bytes spell so many units
pub data IsMutf8 : List ℕ → ℕ → Type 0 where
  nothing : IsMutf8 [] 0
  one_byte : {a n : ℕ} {bs : List ℕ} → 0 < a → a < 128 → IsMutf8 bs n → IsMutf8 (a ∷ bs) (suc n)
  two_bytes : {a b n : ℕ} {bs : List ℕ} → 192 ≤ a → a < 224 → IsTrail b → IsMutf8 bs n → IsMutf8 (a ∷ b ∷ bs) (suc n)
  three_bytes : {a b c n : ℕ} {bs : List ℕ} → 224 ≤ a → a < 240 → IsTrail b → IsTrail c → IsMutf8 bs n → IsMutf8 (a ∷ b ∷ c ∷ bs) (suc n)

-- how many bytes go on the unit that this byte begins, where it can begin one
abbrev pub trails_after : ℕ → Option ℕ
trails_after b =
    if nat_le 1 b && nat_lt b 128 then Some 0
    else if nat_le 192 b && nat_lt b 224 then Some 1
    else if nat_le 224 b && nat_lt b 240 then Some 2
    else None

abbrev pub next_unit : ℕ → Option ℕ → Step
next_unit units (Some trails) = More (record { trails = trails; units = units })
next_unit units None = Fault

-- what this byte does where so much is wanted
abbrev pub step_of : Wanted → ℕ → Step
step_of wanted b =
    if nat_lt 0 wanted.trails then
    (if nat_le 128 b && nat_lt b 192 then More (record { trails = wanted.trails - 1; units = wanted.units }) else Fault)
    else if nat_lt 0 wanted.units then next_unit (wanted.units - 1) (trails_after b)
    else if b == 0 then End else Fault

-- what comes of the byte at p, where go says what comes of the bytes after it
abbrev pub after_step : ℕ → (Wanted → Result ℕ DexFault) → Step → Result ℕ DexFault
after_step p go (More next) = go next
after_step p go End = Ok p
after_step p go Fault = Err (Mutf8 p)

-- the place of a text's zero byte, or its first fault, where the text began at start and these are its bytes from p on
abbrev pub text_end : ℕ → ℕ → Wanted → List ℕ → Result ℕ DexFault
text_end start p wanted [] = Err (Short start)
text_end start p wanted (b ∷ bs) = after_step p (λ next. text_end start (p + 1) next bs) (step_of wanted b)

-- the place of the zero byte after the text of so many units at a place, or its first fault
unfoldable pub mutf8_at : List ℕ → ℕ → ℕ → Result ℕ DexFault
mutf8_at bs p units = text_end p p (record { trails = 0; units = units }) (drop p bs)

-- a text of so many units stands at a place, and its zero byte at e
pub record IsText (bs : List ℕ) (p units e : ℕ) : Type 0 where
  pub within : (p ≤ e) × (e < length bs)
  pub zero_byte : slice_index bs e ≡ 0
  pub spelled : IsMutf8 (take (e - p) (drop p bs)) units

-- some text of so many units, with its zero byte, begins with these bytes
abbrev pub BeginsText : List ℕ → ℕ → Type 0
BeginsText bs units = (text : List ℕ) × (rest : List ℕ) × IsMutf8 text units × (text ++ 0 ∷ [] ≡ bs ++ rest)

-- of the bytes from p on the one at q is the first that cannot stand there in a text of so many units
pub record IsFirstBad (bs : List ℕ) (p units q : ℕ) : Type 0 where
  pub within : (p ≤ q) × (q < length bs)
  pub before : BeginsText (take (q - p) (drop p bs)) units
  pub bad : ¬ BeginsText (take (q - p + 1) (drop p bs)) units
