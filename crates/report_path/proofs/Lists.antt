-- Places of a list.
use Rattle.std.proofs.Common.{suc, zero, ◌≡◌, ℕ, ◌<◌, List, [], ◌∷◌, Some, arith}
use Rattle.std.specs.Prelude.{slice_get, take}

pub take_get : {A : Type 0} → (xs : List A) (n i : ℕ) (x : A) → slice_get (take n xs) i ≡ Some x → (i < n) × (slice_get xs i ≡ Some x)
take_get xs zero i x e = absurd (cc)
take_get [] (suc n) i x e = absurd (cc)
take_get (y ∷ xs) (suc n) zero x e = (omega arith, e)
take_get (y ∷ xs) (suc n) (suc i) x e = let r = take_get xs n i x e in (omega (arith, r.0), r.1)

-- induction from all that are below
pub from_below : (P : ℕ → Type 0) → ((k : ℕ) → ((j : ℕ) → j < k → P j) → P k) → (n k : ℕ) → k < n → P k
from_below P go zero k lt = absurd (omega arith)
from_below P go (suc n) k lt = go k (λ j below. from_below P go n j (omega arith))
