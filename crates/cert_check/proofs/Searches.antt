-- Searches for a number of which something holds, from 0 on.
use Rattle.std.proofs.Common.{◌≡◌, ◌+◌, ◌<◌, ℕ, Bool, true, false, refl, sym, ◌∙◌, ⊎_elim, arith}
use Rattle.std.specs.Prelude.{◌↔◌, IsTrue}
use Rattle.std.proofs.lemmas.Bool.{cases_lt, false≢true}

-- it holds of no number below n
abbrev pub NoneBelow : (ℕ → Type 0) → ℕ → Type 0
NoneBelow P n = (k : ℕ) → k < n → P k → ⊥

pub none_at_first : (P : ℕ → Type 0) → NoneBelow P 0
none_at_first P = λ k lt p. absurd (omega arith)

pub none_more : (P : ℕ → Type 0) (n : ℕ) (b : Bool) → NoneBelow P n → (IsTrue b ↔ P n) → b ≡ false → NoneBelow P (n + 1)
none_more P n b none test off = λ k lt p. ⊎_elim (λ below. none k below p) (λ from. (let same : k ≡ n = omega arith in false≢true (sym off ∙ test.1 (rw same at p)))) (cases_lt k n)

-- the answers of a search
pub found_some : (P : ℕ → Type 0) (n : ℕ) (b : Bool) → (IsTrue b ↔ P n) → b ≡ true → IsTrue true ↔ ((k : ℕ) × P k)
found_some P n b test on = (λ h. (n, test.0 on), λ h. refl)

pub found_none : (P : ℕ → Type 0) (n : ℕ) → NoneBelow P n → ((k : ℕ) → P k → k < n) → IsTrue false ↔ ((k : ℕ) × P k)
found_none P n none within = (λ h. absurd (false≢true h), λ z. absurd (none z.0 (within z.0 z.1) z.1))
