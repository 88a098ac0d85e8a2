-- What is read for 0, 1, .. below a number, one after another.
use Rattle.std.proofs.Common.{◌≡◌, ℕ, zero, suc, ◌+◌, ◌-◌, ◌*◌, ◌<◌, List, [], ◌∷◌, ◌++◌, length, nat_lt, false, Result, Ok, Err, refl, sym, ap, arith, append_assoc}
use Rattle.dex_bytes.specs.declared.fault.DexFault.{DexFault}
use Rattle.dex_bytes.specs.declared.layout.Part.{Part}
use Rattle.dex_tables.specs.Reading.{rows_below, list_below, joined_below, table_at}

-- one row more
pub rows_below-more : {T : Type 0} (f : ℕ → Result T DexFault) (n : ℕ) (rows : List T) (x : T) → rows_below f n ≡ Ok rows → f n ≡ Ok x → rows_below f (n + 1) ≡ Ok (rows ++ x ∷ [])
rows_below-more f n rows x all one = let e : n + 1 ≡ suc n = omega arith in rw (e, all, one) refl

rows_below-stop : {T : Type 0} (f : ℕ → Result T DexFault) (n : ℕ) (rows : List T) (e : DexFault) → rows_below f n ≡ Ok rows → f n ≡ Err e → rows_below f (suc n) ≡ Err e
rows_below-stop f n rows e all one = rw (all, one) refl

rows_below-stopped : {T : Type 0} (f : ℕ → Result T DexFault) (n k : ℕ) (e : DexFault) → rows_below f n ≡ Err e → rows_below f (k + n) ≡ Err e
rows_below-stopped f n zero e stop = let same : 0 + n ≡ n = omega arith in rw same stop
rows_below-stopped f n (suc k) e stop =
    let same : suc k + n ≡ suc (k + n) = omega arith in
    rw (same, rows_below-stopped f n k e stop) refl

-- the first fault is that of all rows
pub rows_below-fault : {T : Type 0} (f : ℕ → Result T DexFault) (i n : ℕ) (rows : List T) (e : DexFault) → rows_below f i ≡ Ok rows → f i ≡ Err e → i < n → rows_below f n ≡ Err e
rows_below-fault f i n rows e all one low =
    let same : n ≡ (n - suc i) + suc i = omega arith in
    rw same (rows_below-stopped f (suc i) (n - suc i) e (rows_below-stop f i rows e all one))

-- a table that lies in the file
pub table_at-rows : {T : Type 0} (bs : List ℕ) (table : ℕ) (part : Part) (width : ℕ) (row : ℕ → Result T DexFault) (r : Result (List T) DexFault) → false ≡ nat_lt (length bs) (part.off + width * part.size) → rows_below row part.size ≡ r → table_at bs table part width row ≡ r
table_at-rows bs table part width row r within rows = rw (sym within) rows

-- one entry more
pub list_below-more : (f : ℕ → ℕ) (k : ℕ) (init xs : List ℕ) (e : ℕ) → xs ≡ init ++ list_below f k → e ≡ f k → xs ++ e ∷ [] ≡ init ++ list_below f (k + 1)
list_below-more f k init xs e all one =
    let next : list_below f (k + 1) ≡ list_below f k ++ f k ∷ [] = let same : k + 1 ≡ suc k = omega arith in ap (list_below f) same in
    rw (next, all, one) (append_assoc init (list_below f k) (f k ∷ []))

-- one list more
pub joined_below-more : (f : ℕ → List ℕ) (k : ℕ) (init xs ys : List ℕ) → xs ≡ init ++ joined_below f k → ys ≡ f k → xs ++ ys ≡ init ++ joined_below f (k + 1)
joined_below-more f k init xs ys all one =
    let next : joined_below f (k + 1) ≡ joined_below f k ++ f k = let same : k + 1 ≡ suc k = omega arith in ap (joined_below f) same in
    rw (next, all, one) (append_assoc init (joined_below f k) (f k))
