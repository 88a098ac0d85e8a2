-- A reading in steps: each step gives a value, or stops the reading with a fault. `E` is any type of faults; the crate
-- of that type has a test `is_memory`, by cases, for those that only mean that memory ran out.
use Rattle.std.specs.Prelude.{ℕ, zero, suc, ◌≡◌, Bool, true, false, List, [], ◌∷◌, ◌++◌, Result, Ok, Err}

-- the next step, on what this one gave; a fault stops the reading. A `do` block is a chain of these
infixl 10 ◌>>=◌
abbrev pub ◌>>=◌ : {E A B : Type 0} → Result A E → (A → Result B E) → Result B E
(Ok x) >>= f = f x
(Err e) >>= f = Err e

-- a fact that is owed only where the test is false. The test decides the type, so a proof has no premise to meet
abbrev pub Unless : Bool → Type 0 → Type 0
Unless true P = Unit {0}
Unless false P = P

-- a call answered what is wanted, with what it gave seen through `view`, or ran out of memory
abbrev pub Gives : {E X Y : Type 0} → (E → Bool) → (X → Y) → Result X E → Result Y E → Type 0
Gives is_memory view (Ok x) wanted = wanted ≡ Ok (view x)
Gives is_memory view (Err e) wanted = Unless (is_memory e) (wanted ≡ Err e)

-- a call answered exactly what is wanted, or ran out of memory
abbrev pub IsExact : {E X : Type 0} → (E → Bool) → Result X E → Result X E → Type 0
IsExact is_memory result wanted = Gives is_memory (λ x. x) result wanted

-- the same reading, with its fault told in other words
abbrev pub lifted : {E F A : Type 0} → (E → F) → Result A E → Result A F
lifted words (Ok x) = Ok x
lifted words (Err e) = Err (words e)

-- what f gives for 0, 1, .. below n, or its first fault
abbrev pub rows_below : {E T : Type 0} → (ℕ → Result T E) → ℕ → Result (List T) E
rows_below f zero = Ok []
rows_below f (suc n) = do
  rows ← rows_below f n
  row ← f n
  Ok (rows ++ row ∷ [])

-- the state to which steps 0, 1, .. below n carry `start`, or their first fault
abbrev pub reached : {E S : Type 0} → (ℕ → S → Result S E) → S → ℕ → Result S E
reached f start zero = Ok start
reached f start (suc n) = do
  state ← reached f start n
  f n state
