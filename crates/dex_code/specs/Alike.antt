-- Numbers that tell which strings of a file are one text.
use Rattle.std.specs.Prelude.{ℕ, ◌<◌, ◌≡◌, List, length, slice_index, Option, Some}
use Rattle.std.specs.Borrow.{Bor}
use Rattle.std.specs.BTreeMap.{BTreeMap, get_by}
use Rattle.std.specs.Cmp.Lexicographic.{slice_cmp}
use Rattle.std.specs.Ordering.{nat_cmp}
use Rattle.dex_tables.specs.Rows.{string_count, string_text}

-- each string of the file has a number, and two have one number exactly where they have the same bytes
pub record AreTextNumbers (bs numbers : List ℕ) : Type 0 where
  pub count : length numbers ≡ string_count bs
  pub same : (s t : ℕ) → s < string_count bs → t < string_count bs → slice_index numbers s ≡ slice_index numbers t → string_text bs s ≡ string_text bs t
  pub alike : (s t : ℕ) → s < string_count bs → t < string_count bs → string_text bs s ≡ string_text bs t → slice_index numbers s ≡ slice_index numbers t

-- the numbers that are kept: none before they are asked for
abbrev pub AreKeptNumbers : List ℕ → List ℕ → Type 0
AreKeptNumbers bs numbers = 0 < length numbers → AreTextNumbers bs numbers

-- the row that is kept for a text
abbrev pub first_in : BTreeMap (Bor (List ℕ)) ℕ → List ℕ → Option ℕ
first_in firsts text = get_by (λ k. slice_cmp nat_cmp text k.now) firsts

-- the strings below n are numbered by the row that is kept for their text
pub record AreFirsts (bs : List ℕ) (firsts : BTreeMap (Bor (List ℕ)) ℕ) (numbers : List ℕ) (n : ℕ) : Type 0 where
  pub count : length numbers ≡ n
  pub kept : (s : ℕ) → s < n → first_in firsts (string_text bs s) ≡ Some (slice_index numbers s)
  pub theirs : (text : List ℕ) (r : ℕ) → first_in firsts text ≡ Some r → string_text bs r ≡ text
