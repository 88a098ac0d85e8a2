-- What tests and searches show.
use Rattle.std.proofs.Common.{◌≡◌, ◌+◌, ◌<◌, ◌≤◌, ℕ, Bool, false, List, length, Option, Some, None, sym, subst, ⊎_elim, arith}
use Rattle.std.specs.Prelude.{◌↔◌, IsTrue, slice_get}
use Rattle.std.proofs.lemmas.Bool.{cases_lt, false≢true}
use Rattle.std.proofs.lemmas.Option.{slice_get_past}
use Rattle.report_path.specs.Lookups.{Has}

-- ---- a part is wrong, so the whole is
pub refused : {P Q : Type 0} → (r : Bool) → (IsTrue r ↔ P) → r ≡ false → (Q → P) → IsTrue false ↔ Q
refused r same off part = (λ t. absurd (cc), λ q. absurd (let t = same.1 (part q) in cc))

pub denied : {P Q : Type 0} → (P → ⊥) → (Q → P) → IsTrue false ↔ Q
denied off part = (λ t. absurd (cc), λ q. absurd (off (part q)))

-- the last part, where the others are right
pub last_part : {P Q : Type 0} → (r : Bool) → (IsTrue r ↔ P) → (P → Q) → (Q → P) → IsTrue r ↔ Q
last_part r same whole part = (λ t. whole (same.0 t), λ q. same.1 (part q))

-- ---- look-ups
pub has_test : {A : Type 0} → {P : A → Type 0} → (r : Bool) (o : Option A) (x : A) → Some x ≡ o → (IsTrue r ↔ P x) → IsTrue r ↔ Has o P
has_test {P = P} r o x e same = (λ t. record { value = x; at = sym e; holds = same.0 t }, λ h. same.1 (let one : h.value ≡ x = (let at = h.at in cc) in subst P one h.holds))

pub has_none : {A : Type 0} → {P : A → Type 0} → (o : Option A) → None ≡ o → IsTrue false ↔ Has o P
has_none o e = (λ t. absurd (cc), λ h. absurd (let at = h.at in cc))

-- ---- searches for a number of which something holds, from 0 on: it holds of no number below n
abbrev pub NoneBelow : (ℕ → Type 0) → ℕ → Type 0
NoneBelow P n = (k : ℕ) → k < n → P k → ⊥

pub none_more : (P : ℕ → Type 0) (n : ℕ) → NoneBelow P n → (P n → ⊥) → NoneBelow P (n + 1)
none_more P n none off = λ k lt p. ⊎_elim (λ below. none k below p) (λ from. (let same : k ≡ n = omega arith in off (rw same at p))) (cases_lt k n)

pub found_none : (P : ℕ → Type 0) (n : ℕ) → NoneBelow P n → ((k : ℕ) → P k → k < n) → IsTrue false ↔ ((k : ℕ) × P k)
found_none P n none within = (λ h. absurd (false≢true h), λ z. absurd (none z.0 (within z.0 z.1) z.1))

pub past_read : {A : Type 0} → (xs : List A) (k : ℕ) → length xs ≤ k → None ≡ slice_get xs k
past_read xs k past = sym (slice_get_past xs k past)
