-- Masks of eight statuses, and words of eight rows of eight statuses.
use Rattle.std.specs.Prelude.{◌≡◌, ℕ, ◌+◌, ◌*◌, ◌<◌, Bool, true, ◌&&◌, nat_lt, ◌==◌}
use Rattle.std.specs.Int.{bit_at}
use Rattle.app_model.specs.Masks.{in_mask}

-- row e of the word has status s
abbrev pub has : ℕ → ℕ → ℕ → Bool
has word e s = nat_lt e 8 && nat_lt s 8 && (bit_at word (8 * e + s) == 1)

-- the mask has exactly the statuses of which this holds
pub record IsMask (part : ℕ → Type 0) (mask : ℕ) : Type 0 where
  pub there : (t : ℕ) → part t → in_mask mask t ≡ true
  pub only : (t : ℕ) → in_mask mask t ≡ true → part t

-- the rows of the word below n have exactly the statuses of which this holds
pub record AreRows (part : ℕ → ℕ → Type 0) (n word : ℕ) : Type 0 where
  pub there : (k t : ℕ) → k < n → part k t → has word k t ≡ true
  pub only : (k t : ℕ) → has word k t ≡ true → part k t

-- the mask as row e of a word
pub record IsShifted (mask e word : ℕ) : Type 0 where
  pub there : (t : ℕ) → in_mask mask t ≡ true → has word e t ≡ true
  pub only : (d t : ℕ) → has word d t ≡ true → (d ≡ e) × (in_mask mask t ≡ true)

-- what some number below n gives
abbrev pub Below : (ℕ → ℕ → Type 0) → ℕ → ℕ → Type 0
Below part n t = (k : ℕ) × (k < n) × part k t

-- status s of the mask leads to t by the rows of the word
abbrev pub Leads : ℕ → ℕ → ℕ → ℕ → Type 0
Leads mask word s t = (in_mask mask s ≡ true) × (has word s t ≡ true)

-- row e of the first word leads to t by row s of the second, by its rows below n, by its rows
abbrev pub JoinedBy : (a b s : ℕ) → ℕ → ℕ → Type 0
JoinedBy a b s e t = (has a e s ≡ true) × (has b s t ≡ true)

abbrev pub JoinedBelow : (a b n : ℕ) → ℕ → ℕ → Type 0
JoinedBelow a b n e t = (s : ℕ) × (s < n) × (has a e s ≡ true) × (has b s t ≡ true)

abbrev pub Joined : ℕ → ℕ → ℕ → ℕ → Type 0
Joined a b e t = (s : ℕ) × (has a e s ≡ true) × (has b s t ≡ true)

-- status s of the mask in row s
abbrev pub Itself : ℕ → ℕ → ℕ → Type 0
Itself mask s t = (t ≡ s) × (in_mask mask s ≡ true)

-- one status in one row
abbrev pub IsOne : ℕ → ℕ → ℕ → ℕ → Type 0
IsOne entry status e s = (e ≡ entry) × (s ≡ status)

-- the statuses of a mask, each with where it leads
abbrev pub Asked : (ℕ → ℕ) → ℕ → ℕ → ℕ → Type 0
Asked masks seen s t = (in_mask seen s ≡ true) × (in_mask (masks s) t ≡ true)
