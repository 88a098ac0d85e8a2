-- Texts that a zero byte ends.
use Rattle.std.proofs.Common.{◌≡◌, ℕ, zero, suc, ◌+◌, ◌-◌, ◌*◌, ◌≢◌, ◌<◌, ◌≤◌, List, [], ◌∷◌, length, take, drop, cond, Bool, true, false, Ok, Err, refl, sym, ap, arith, ◌∙◌, length-take-le, length-drop, get_or, get_or-drop, ◌==◌, eq-eqb, subst}
use Rattle.std.specs.List.{position_or_len, prefix_len}
use Rattle.std.proofs.lemmas.Bool.{eqb-true}
use Rattle.std.proofs.lemmas.Bool.Decides.{nat_tests}
use Rattle.std.proofs.lemmas.List.Sums.{position_or_len_is, passes_at_first}
use Rattle.std.proofs.Math.ListN.{drop_of_length-le}
use Rattle.dex_bytes.specs.declared.fault.DexFault.TheVariants.{Short}
use Rattle.dex_bytes.specs.Leb128.{groups_of, uleb_of, uleb_at}
use Rattle.dex_bytes.specs.Mutf8.{mutf8_at, IsText}
use Rattle.dex_bytes.specs.Places.{text_at, uleb_next}
use Rattle.dex_bytes.proofs.Leb.{IsUleb-found}
use Rattle.std.specs.Prelude.{Result, IfOk}
use Rattle.dex_bytes.specs.declared.fault.DexFault.{DexFault}
use Rattle.dex_tables.specs.declared.tables.Slice.{Slice}
use Rattle.dex_tables.specs.Content.{string_slice}
use Rattle.dex_tables.specs.Reading.{IsListThere}
use Rattle.dex_tables.specs.Rows.{list_size, string_data, string_text}
use Rattle.dex_bytes.proofs.Texts.{text_found, no_zero_before}

counted : (b : Bool) (n m : ℕ) → n ≤ m → cond b (1 + n) 0 ≤ suc m
counted true n m le = omega arith
counted false n m le = omega arith

prefix_len-le : (p : ℕ → Bool) (xs : List ℕ) → prefix_len p xs ≤ length xs
prefix_len-le p [] = omega arith
prefix_len-le p (x ∷ xs) = counted (p x) (prefix_len p xs) (length xs) (prefix_len-le p xs)

-- as many bytes as a text has, from its place on, are the text
pub text_taken : (bs : List ℕ) (p : ℕ) → take (length (text_at bs p)) (drop p bs) ≡ text_at bs p
unfolding text_at
text_taken bs p = ap (λ (n : ℕ). take n (drop p bs)) (length-take-le _ (drop p bs) (prefix_len-le _ (drop p bs)))

-- a text that is read is the bytes before the first zero byte
nonzero : (n : ℕ) → 0 < n → (n == 0) ≡ false
nonzero n h = grind (arith, nat_tests)

pub text_read : (bs : List ℕ) (p units e : ℕ) → mutf8_at bs p units ≡ Ok e → (p ≤ e) × (e < length bs) × (length (text_at bs p) ≡ e - p)
unfolding text_at
text_read bs p units e read =
    let text : IsText bs p units e = text_found bs p units e read in
    let within : (p ≤ e) × (e < length bs) = text.within in
    let rest : length (drop p bs) ≡ length bs - p = length-drop p bs in
    let at_end : get_or (drop p bs) (e - p) 0 ≡ 0 =
    get_or-drop p bs (e - p) 0 ∙ (let place : p + (e - p) ≡ e = omega (arith, within.0) in ap (λ (n : ℕ). get_or bs n 0) place) ∙ text.zero_byte in
    let place : position_or_len (λ b. b == 0) (drop p bs) ≡ e - p =
    position_or_len_is (λ b. b == 0) (drop p bs) (e - p) 0 (omega (arith, rest, within.1))
    (λ k low. nonzero _ (let P : ℕ → Type 0 = λ n. 0 < n in subst P (sym (get_or-drop p bs k 0)) (no_zero_before bs p units e (p + k) text (omega arith) (omega (arith, within.0)))))
    (λ low. eq-eqb _ 0 at_end) in
    (within.0, within.1, length-take-le _ (drop p bs) (prefix_len-le _ (drop p bs)) ∙ place)

-- the byte after a text that ends in the file
pub text_ends : (bs : List ℕ) (p : ℕ) → p + length (text_at bs p) < length bs → get_or bs (p + length (text_at bs p)) 0 ≡ 0
unfolding text_at
text_ends bs p closed =
    let len : length (take (position_or_len (λ b. b == 0) (drop p bs)) (drop p bs)) ≡ position_or_len (λ b. b == 0) (drop p bs) = length-take-le _ (drop p bs) (prefix_len-le _ (drop p bs)) in
    let low : position_or_len (λ b. b == 0) (drop p bs) < length (drop p bs) = omega (arith, closed, len, length-drop p bs) in
    let is : get_or (drop p bs) (position_or_len (λ b. b == 0) (drop p bs)) 0 ≡ 0 = eqb-true _ _ (passes_at_first (λ b. b == 0) (drop p bs) 0 low) in
    ap (λ (n : ℕ). get_or bs (p + n) 0) len ∙ sym (get_or-drop p bs (position_or_len (λ b. b == 0) (drop p bs)) 0) ∙ is

pub text_within : (bs : List ℕ) (p units : ℕ) (r : Result ℕ DexFault) → r ≡ mutf8_at bs p units → IfOk r (λ e. (p ≤ e) × (e < length bs))
text_within bs p units (Ok e) is = let text : (p ≤ e) × (e < length bs) × (length (text_at bs p) ≡ e - p) = text_read bs p units e (sym is) in (text.0, text.1)
text_within bs p units (Err e) is = tt

pub text_counted : (bs : List ℕ) (p units : ℕ) (r : Result ℕ DexFault) → r ≡ mutf8_at bs p units → IfOk r (λ e. length (text_at bs p) ≡ e - p)
text_counted bs p units (Ok e) is = (text_read bs p units e (sym is)).2
text_counted bs p units (Err e) is = tt

pub units_place : (bs : List ℕ) (p : ℕ) (r : Result (ℕ × ℕ) DexFault) → p ≤ length bs → r ≡ uleb_at bs p → IfOk r (λ x. (x.1 ≡ uleb_next bs p) × (x.1 ≤ length bs))
units_place bs p (Ok x) within is = let found = IsUleb-found bs p x within (sym is) in (found.2, found.3)
units_place bs p (Err e) within is = tt

-- past the end stands no number
pub uleb_past : (bs : List ℕ) (p : ℕ) → length bs < p → uleb_at bs p ≡ Err (Short p)
unfolding uleb_at
uleb_past bs p past =
    let none : drop p bs ≡ [] = drop_of_length-le bs (omega arith) in
    ap (λ (xs : List ℕ). uleb_of p (groups_of 5 xs)) none

-- the bytes of a slice of a string are its text
pub slice_taken : (bs : List ℕ) (i : ℕ) (slice : Slice) (rest text : List ℕ) → slice ≡ string_slice bs i → rest ≡ drop slice.at bs → text ≡ take slice.len rest → text ≡ string_text bs i
unfolding string_text
slice_taken bs i slice rest text is back front =
    let made : take slice.len (drop slice.at bs) ≡ take (length (string_text bs i)) (drop (uleb_next bs (string_data bs i)) bs) = ap (λ (s : Slice). take s.len (drop s.at bs)) is in
    front ∙ ap (take slice.len) back ∙ made ∙ text_taken bs (uleb_next bs (string_data bs i))

-- at offset 0 stands no list
pub list_size-none : (bs : List ℕ) → list_size bs 0 ≡ 0
unfolding list_size
list_size-none bs = refl

pub no_list : (bs : List ℕ) (before off : ℕ) → off ≡ 0 → before ≤ 4194304 → IsListThere bs before off
no_list bs before off none low =
    let size : list_size bs off ≡ 0 = ap (list_size bs) none ∙ list_size-none bs in
    record { in_file = λ some. absurd (some none); limit = omega (arith, size, low) }

-- each entry of a list lies in the file
pub entry_within : (bs : List ℕ) (off k : ℕ) → (off ≢ 0 → off + 4 + 2 * list_size bs off ≤ length bs) → k < list_size bs off → off + 4 + 2 * k + 2 ≤ length bs
entry_within bs zero k within low = absurd (omega (arith, list_size-none bs, low))
entry_within bs (suc o) k within low =
    let some : suc o ≢ 0 = λ none. absurd (omega (arith, none)) in
    omega (arith, within some, low)
