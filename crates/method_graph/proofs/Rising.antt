-- Rows and places whose pcs rise.
use Rattle.std.proofs.Common.{◌≡◌, ℕ, zero, suc, ◌+◌, ◌<◌, ◌≤◌, List, [], ◌∷◌, length, get_or, Bool, true, false, nat_lt, cond, Option, Some, None, refl, arith}
use Rattle.std.specs.List.{AllPairs}
use Rattle.method_graph.specs.declared.sweep.Row.{Row}
use Rattle.method_graph.specs.Sweep.{piece_at, next_of, row_at, rows_at, rows_from, sweep_of}
use Rattle.method_graph.proofs.Rest.{next_further}

-- each begins behind the one before it, the first not before a pc
abbrev pub Above : {X : Type 0} → (X → ℕ) → ℕ → List X → Type 0
Above key pc [] = Unit {0}
Above key pc (x ∷ xs) = (pc ≤ key x) × Above key (key x + 1) xs

pub above_lower : {X : Type 0} (key : X → ℕ) (a b : ℕ) (xs : List X) → a ≤ b → Above key b xs → Above key a xs
above_lower key a b [] le h = tt
above_lower key a b (x ∷ xs) le h = let first = h.0 in (omega arith, h.1)

above_get : {X : Type 0} (key : X → ℕ) (pc : ℕ) (xs : List X) → Above key pc xs → (k : ℕ) (d : X) → k < length xs → pc ≤ key (get_or xs k d)
above_get key pc [] h k d lt = absurd (omega arith)
above_get key pc (x ∷ xs) h zero d lt = h.0
above_get key pc (x ∷ xs) h (suc k) d lt =
    let first = h.0 in
    let more = above_get key (key x + 1) xs h.1 k d (omega arith) in
    omega arith

pub above_pairs : {X : Type 0} (key : X → ℕ) (pc : ℕ) (xs : List X) → Above key pc xs → AllPairs (λ a b. key a < key b) xs
above_pairs key pc [] h i j d lt le = absurd (omega arith)
above_pairs key pc (x ∷ xs) h zero zero d lt le = absurd (omega arith)
above_pairs key pc (x ∷ xs) h zero (suc j) d lt le =
    let more = above_get key (key x + 1) xs h.1 j d (omega arith) in
    omega arith
above_pairs key pc (x ∷ xs) h (suc i) zero d lt le = absurd (omega arith)
above_pairs key pc (x ∷ xs) h (suc i) (suc j) d lt le = above_pairs key (key x + 1) xs h.1 i j d (omega arith) (omega arith)

abbrev pub row_pc : Row → ℕ
row_pc row = row.pc

above_if : (test : Bool) (units : List ℕ) (pc : ℕ) (rows : List Row) → Above row_pc (pc + 1) rows → Above row_pc pc (cond test (row_at units pc ∷ rows) [])
above_if true units pc rows h = (omega arith, h)
above_if false units pc rows h = tt

above_next : (rows : ℕ → List Row) (pc : ℕ) (after : Option ℕ) → ((next : ℕ) → after ≡ Some next → pc < next) → ((next : ℕ) → Above row_pc next (rows next)) → Above row_pc (pc + 1) (rows_at rows after)
above_next rows pc None further each = tt
above_next rows pc (Some next) further each = let lt = further next refl in above_lower row_pc (pc + 1) next (rows next) (omega arith) (each next)

rows_above : (most : ℕ) (units : List ℕ) (pc : ℕ) → Above row_pc pc (rows_from most units pc)
rows_above zero units pc = tt
rows_above (suc most) units pc =
    above_if (nat_lt pc (length units)) units pc _
    (above_next (rows_from most units) pc (next_of (piece_at units pc)) (next_further units pc) (rows_above most units))

pub sweep_above : (units : List ℕ) → Above row_pc 0 (sweep_of units)
unfolding sweep_of
sweep_above units = rows_above (length units) units 0

rows_if : (test : Bool) (row : Row) (rows : List Row) (n : ℕ) → length rows ≤ n → length (cond test (row ∷ rows) []) ≤ suc n
rows_if true row rows n h = omega arith
rows_if false row rows n h = omega arith

rows_next : (rows : ℕ → List Row) (after : Option ℕ) (n : ℕ) → ((next : ℕ) → length (rows next) ≤ n) → length (rows_at rows after) ≤ n
rows_next rows None n each = omega arith
rows_next rows (Some next) n each = each next

rows_few : (most : ℕ) (units : List ℕ) (pc : ℕ) → length (rows_from most units pc) ≤ most
rows_few zero units pc = omega arith
rows_few (suc most) units pc = rows_if (nat_lt pc (length units)) (row_at units pc) _ most (rows_next (rows_from most units) (next_of (piece_at units pc)) most (rows_few most units))

-- there are no more rows than units
pub sweep_few : (units : List ℕ) → length (sweep_of units) ≤ length units
unfolding sweep_of
sweep_few units = rows_few (length units) units 0

pub sweep_pairs : (units : List ℕ) → AllPairs (λ a b. a.pc < b.pc) (sweep_of units)
sweep_pairs units = above_pairs row_pc 0 (sweep_of units) (sweep_above units)
