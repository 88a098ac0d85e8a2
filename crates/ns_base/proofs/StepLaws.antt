-- How a loop over steps goes on, and how it ends: what its invariant says after one step more, and what the first fault
-- says of all steps. A function with such a loop names these laws in its `using`. Where a law has a test `b`, that is
-- whether the fault was want of memory.
use Rattle.std.proofs.Common.{◌≡◌, ℕ, zero, suc, ◌+◌, ◌-◌, ◌<◌, Bool, true, false, List, [], ◌∷◌, ◌++◌, Result, Ok, Err, refl, sym, ◌∙◌, arith}
use Rattle.ns_base.specs.Steps.{◌>>=◌, Unless, rows_below, reached}

-- what follows from a fact is owed only where the fact is
owed : (b : Bool) (P Q : Type 0) → (P → Q) → Unless b P → Unless b Q
owed true P Q f p = tt
owed false P Q f p = f p

-- what is known is owed
known : (b : Bool) (P : Type 0) → P → Unless b P
known true P p = tt
known false P p = p

reached_stop : {E S : Type 0} (f : ℕ → S → Result S E) (start : S) (i : ℕ) (x : S) (e : E) → reached f start i ≡ Ok x → f i x ≡ Err e → reached f start (suc i) ≡ Err e
reached_stop f start i x e before one = rw before one

reached_stopped : {E S : Type 0} (f : ℕ → S → Result S E) (start : S) (i k : ℕ) (e : E) → reached f start i ≡ Err e → reached f start (k + i) ≡ Err e
reached_stopped f start i zero e stop = let same : 0 + i ≡ i = omega arith in rw same stop
reached_stopped f start i (suc k) e stop =
    let same : suc k + i ≡ suc (k + i) = omega arith in
    rw (same, reached_stopped f start i k e stop) refl

reached_fault : {E S : Type 0} (f : ℕ → S → Result S E) (start : S) (i n : ℕ) (x : S) (e : E) → reached f start i ≡ Ok x → i < n → f i x ≡ Err e → reached f start n ≡ Err e
reached_fault f start i n x e before low one =
    let same : n ≡ (n - suc i) + suc i = omega arith in
    rw same (reached_stopped f start (suc i) (n - suc i) e (reached_stop f start i x e before one))

-- rows are steps whose state is the list of the rows so far
abbrev row_step : {E T : Type 0} → (ℕ → Result T E) → ℕ → List T → Result (List T) E
row_step f n rows = do
  row ← f n
  Ok (rows ++ row ∷ [])

row_stop : {E T : Type 0} (f : ℕ → Result T E) (i : ℕ) (rows : List T) (e : E) → f i ≡ Err e → row_step f i rows ≡ Err e
row_stop f i rows e one = rw one refl

rows_are_reached : {E T : Type 0} (f : ℕ → Result T E) (n : ℕ) → rows_below f n ≡ reached (row_step f) [] n
rows_are_reached f zero = refl
rows_are_reached f (suc n) = rw (rows_are_reached f n) refl

rows_fault : {E T : Type 0} (f : ℕ → Result T E) (i n : ℕ) (rows : List T) (e : E) → rows_below f i ≡ Ok rows → i < n → f i ≡ Err e → rows_below f n ≡ Err e
rows_fault f i n rows e before low one =
    rows_are_reached f n ∙ reached_fault (row_step f) [] i n rows e (sym (rows_are_reached f i) ∙ before) low (row_stop f i rows e one)

-- a row that was read goes behind those before it
pub rows_more : {E T : Type 0} (f : ℕ → Result T E) (i : ℕ) (rows : List T) (x : T) → rows_below f i ≡ Ok rows → f i ≡ Ok x → rows_below f (i + 1) ≡ Ok (rows ++ x ∷ [])
rows_more f i rows x before one = let same : i + 1 ≡ suc i = omega arith in rw (same, before, one) refl

-- the fault of a row stops all n rows, where the row was read by a call that may run out of memory
pub rows_stop : {E T : Type 0} (b : Bool) (f : ℕ → Result T E) (i n : ℕ) (rows : List T) (e : E) → rows_below f i ≡ Ok rows → i < n → Unless b (f i ≡ Err e) → Unless b (rows_below f n ≡ Err e)
rows_stop b f i n rows e before low one = owed b (f i ≡ Err e) (rows_below f n ≡ Err e) (rows_fault f i n rows e before low) one

-- the fault of a row stops all n rows, where the row was read by a call that takes no memory
pub rows_told : {E T : Type 0} (b : Bool) (f : ℕ → Result T E) (i n : ℕ) (rows : List T) (e : E) → rows_below f i ≡ Ok rows → i < n → f i ≡ Err e → Unless b (rows_below f n ≡ Err e)
rows_told b f i n rows e before low one = known b (rows_below f n ≡ Err e) (rows_fault f i n rows e before low one)

-- a step that was made carries the state on
pub reached_more : {E S : Type 0} (f : ℕ → S → Result S E) (start : S) (i : ℕ) (x y : S) → reached f start i ≡ Ok x → f i x ≡ Ok y → reached f start (i + 1) ≡ Ok y
reached_more f start i x y before one = let same : i + 1 ≡ suc i = omega arith in rw (same, before) one

-- the fault of a step stops all n steps, where the step was a call that may run out of memory
pub reached_end : {E S : Type 0} (b : Bool) (f : ℕ → S → Result S E) (start : S) (i n : ℕ) (x : S) (e : E) → reached f start i ≡ Ok x → i < n → Unless b (f i x ≡ Err e) → Unless b (reached f start n ≡ Err e)
reached_end b f start i n x e before low one = owed b (f i x ≡ Err e) (reached f start n ≡ Err e) (reached_fault f start i n x e before low) one

-- the fault of a step stops all n steps, where the step was a call that takes no memory
pub reached_told : {E S : Type 0} (b : Bool) (f : ℕ → S → Result S E) (start : S) (i n : ℕ) (x : S) (e : E) → reached f start i ≡ Ok x → i < n → f i x ≡ Err e → Unless b (reached f start n ≡ Err e)
reached_told b f start i n x e before low one = known b (reached f start n ≡ Err e) (reached_fault f start i n x e before low one)
