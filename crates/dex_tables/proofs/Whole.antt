-- Whole tables and lists from what is at each place.
use Rattle.std.proofs.Common.{◌≡◌, ℕ, zero, suc, ◌+◌, ◌*◌, ◌<◌, ◌≤◌, List, [], ◌∷◌, ◌++◌, length, take, drop, get_or, nat_lt, Result, Ok, refl, sym, ap, subst, arith, ◌∙◌, inl, inr, ◌⊎◌, length-take-le, length-drop, get_or-drop}
use Rattle.std.proofs.lemmas.Bool.{cases_lt}
use Rattle.std.proofs.lemmas.List.{length-append, get_or_append_left, get_or_at, get_or-append-add, get_or-take, take-append-drop, nil_from_length}
use Rattle.dex_bytes.specs.declared.fault.DexFault.{DexFault}
use Rattle.dex_bytes.specs.declared.fault.DexFault.TheVariants.{TableRange}
use Rattle.dex_bytes.specs.declared.layout.Part.{Part}
use Rattle.dex_tables.specs.Content.{AreRows}
use Rattle.dex_tables.specs.Reading.{◌>>=◌, rows_below, list_below, joined_below, table_at}
use Rattle.dex_tables.specs.Sound.{IsInFile, sum_below}
use Rattle.dex_tables.proofs.Below.{table_at-rows}
use Rattle.dex_tables.proofs.Chains.{ok_is, bind_ok, test_ok, not_lt, lt_not}
use Rattle.dex_tables.proofs.Sums.{sum_below-le}

-- lists with the same at each place
pub same_list : {A : Type 0} (xs ys : List A) → length xs ≡ length ys → ((i : ℕ) (d : A) → i < length xs → get_or xs i d ≡ get_or ys i d) → xs ≡ ys
same_list [] [] e h = refl
same_list [] (y ∷ ys) e h = absurd (omega arith)
same_list (x ∷ xs) [] e h = absurd (omega arith)
same_list (x ∷ xs) (y ∷ ys) e h =
    let head : x ≡ y = h 0 x (omega arith) in
    let tail : xs ≡ ys = same_list xs ys (omega arith) (λ i d low. h (suc i) d (omega arith)) in
    rw (head, tail) refl

-- a table that was read lies in the file
pub table_ok : {T : Type 0} (bs : List ℕ) (table : ℕ) (part : Part) (width : ℕ) (row : ℕ → Result T DexFault) (rows : List T) → table_at bs table part width row ≡ Ok rows → IsInFile bs part width × (rows_below row part.size ≡ Ok rows)
table_ok bs table part width row rows e =
    let test = test_ok (nat_lt (length bs) (part.off + width * part.size)) (TableRange table) (rows_below row part.size) rows e in
    (not_lt _ _ test.0, test.1)

pub table_again : {T : Type 0} (bs : List ℕ) (table : ℕ) (part : Part) (width : ℕ) (row : ℕ → Result T DexFault) (rows : List T) → IsInFile bs part width → rows_below row part.size ≡ Ok rows → table_at bs table part width row ≡ Ok rows
table_again bs table part width row rows within e = table_at-rows bs table part width row (Ok rows) (sym (lt_not _ _ within)) e

pushed : {T : Type 0} (xs ys : List T) (x y : T) → xs ≡ ys → x ≡ y → xs ++ x ∷ [] ≡ ys ++ y ∷ []
pushed xs ys x y all one = rw (all, one) refl

-- rows that were read, where each that is read says g and is P
pub rows_ok : {T : Type 0} (f : ℕ → Result T DexFault) (g : ℕ → T) (P : ℕ → Type 0) (n : ℕ) (rows : List T) → ((i : ℕ) (x : T) → i < n → f i ≡ Ok x → (x ≡ g i) × P i) → rows_below f n ≡ Ok rows → (rows ≡ list_below g n) × ((i : ℕ) → i < n → P i)
rows_ok f g P zero rows each e = (sym (ok_is [] rows e), λ i low. absurd (omega arith))
rows_ok f g P (suc n) rows each e =
    let a = bind_ok (rows_below f n) (λ earlier. f n >>= λ row. Ok (earlier ++ row ∷ [])) rows e in
    let b = bind_ok (f n) (λ row. Ok (a.0 ++ row ∷ [])) rows a.2 in
    let before = rows_ok f g P n a.0 (λ i x low is. each i x (omega arith) is) a.1 in
    let last = each n b.0 (omega arith) b.1 in (
      sym (ok_is (a.0 ++ b.0 ∷ []) rows b.2) ∙ pushed a.0 (list_below g n) b.0 (g n) before.0 last.0,
      λ i low. elim (cases_lt i n) [
        | inl lt ↦ before.1 i lt
        | inr le ↦ let same : n ≡ i = omega arith in subst P same last.1
      ],
    )

pub rows_again : {T : Type 0} (f : ℕ → Result T DexFault) (g : ℕ → T) (n : ℕ) → ((i : ℕ) → i < n → f i ≡ Ok (g i)) → rows_below f n ≡ Ok (list_below g n)
rows_again f g zero each = refl
rows_again f g (suc n) each = rw (rows_again f g n (λ i low. each i (omega arith)), each n (omega arith)) refl

pub length-list_below : {T : Type 0} (g : ℕ → T) (n : ℕ) → length (list_below g n) ≡ n
length-list_below g zero = refl
length-list_below g (suc n) = omega (arith, length-append (list_below g n) (g n ∷ []), length-list_below g n)

pub list_below-get : {T : Type 0} (g : ℕ → T) (n i : ℕ) (d : T) → i < n → get_or (list_below g n) i d ≡ g i
list_below-get g zero i d low = absurd (omega arith)
list_below-get g (suc n) i d low =
    elim (cases_lt i n) [
      | inl lt ↦ get_or_append_left (list_below g n) (g n ∷ []) d i (omega (arith, length-list_below g n)) ∙ list_below-get g n i d lt
      | inr le ↦ let same : n ≡ i = omega arith in get_or_at (list_below g n) (g n) [] d i (length-list_below g n ∙ same) ∙ ap g same
    ]

pub are_rows : {T : Type 0} (g : ℕ → T) (n : ℕ) → AreRows (list_below g n) n g
are_rows g n = record { count = length-list_below g n; each = list_below-get g n }

pub rows_are : {T : Type 0} (g : ℕ → T) (n : ℕ) (rows : List T) → AreRows rows n g → rows ≡ list_below g n
rows_are g n rows are =
    same_list rows (list_below g n) (are.count ∙ sym (length-list_below g n))
    (λ i d low. let row : i < n = omega (arith, low, are.count) in are.each i d row ∙ sym (list_below-get g n i d row))

-- lists one after another, of lengths that f gives
pub length-joined : (F : ℕ → List ℕ) (f : ℕ → ℕ) (n : ℕ) → ((i : ℕ) → length (F i) ≡ f i) → length (joined_below F n) ≡ sum_below f n
length-joined F f zero len = refl
length-joined F f (suc n) len = omega (arith, length-append (joined_below F n) (F n), length-joined F f n len, len n)

sum_below-at : (f : ℕ → ℕ) (i n : ℕ) → i < n → sum_below f i + f i ≤ sum_below f n
sum_below-at f i n low = let next : sum_below f (suc i) ≤ sum_below f n = sum_below-le f (suc i) n (omega arith) in omega (arith, next)

pub joined-get : (F : ℕ → List ℕ) (f : ℕ → ℕ) (n i k d : ℕ) → ((j : ℕ) → length (F j) ≡ f j) → i < n → k < f i → get_or (joined_below F n) (sum_below f i + k) d ≡ get_or (F i) k d
joined-get F f zero i k d len low within = absurd (omega arith)
joined-get F f (suc n) i k d len low within =
    elim (cases_lt i n) [
      | inl lt ↦ get_or_append_left (joined_below F n) (F n) d (sum_below f i + k) (omega (arith, length-joined F f n len, sum_below-at f i n lt, within)) ∙ joined-get F f n i k d len lt within
      | inr le ↦
          let same : i ≡ n = omega arith in
          let place : sum_below f i + k ≡ length (joined_below F n) + k = omega (arith, length-joined F f n len, ap (sum_below f) same) in
          ap (λ (j : ℕ). get_or (joined_below F n ++ F n) j d) place ∙ get_or-append-add (joined_below F n) (F n) k d ∙ ap (λ (j : ℕ). get_or (F j) k d) (sym same)
    ]

pub joined_are : (F : ℕ → List ℕ) (f : ℕ → ℕ) (n : ℕ) (xs : List ℕ) → ((j : ℕ) → length (F j) ≡ f j) → length xs ≡ sum_below f n → ((i k d : ℕ) → i < n → k < f i → get_or xs (sum_below f i + k) d ≡ get_or (F i) k d) → xs ≡ joined_below F n
joined_are F f zero xs len all each = nil_from_length xs all
joined_are F f (suc n) xs len all each =
    let m = sum_below f n in
    let front : length (take m xs) ≡ m = length-take-le m xs (omega (arith, all)) in
    let earlier : take m xs ≡ joined_below F n = joined_are F f n (take m xs) len front
    (λ i k d low within. get_or-take m xs (sum_below f i + k) d (omega (arith, sum_below-at f i n low, within)) ∙ each i k d (omega arith) within) in
    let back : length (drop m xs) ≡ f n = omega (arith, length-drop m xs, all) in
    let last : drop m xs ≡ F n = same_list (drop m xs) (F n) (back ∙ sym (len n))
    (λ k d low. get_or-drop m xs k d ∙ each n k d (omega arith) (omega (arith, low, back))) in
    sym (take-append-drop m xs) ∙ rw (earlier, last) refl

-- a sum is within a limit where each of its terms, but those that are 0, was added within it
pub sum_within : (f : ℕ → ℕ) (base limit n : ℕ) → base ≤ limit → ((i : ℕ) → i < n → (f i ≡ 0) ⊎ (base + sum_below f i + f i ≤ limit)) → base + sum_below f n ≤ limit
sum_within f base limit zero low each = omega (arith, low)
sum_within f base limit (suc n) low each =
    elim (each n (omega arith)) [
      | inl none ↦ let before : base + sum_below f n ≤ limit = sum_within f base limit n low (λ i k. each i (omega arith)) in omega (arith, before, none)
      | inr some ↦ omega (arith, some)
    ]
