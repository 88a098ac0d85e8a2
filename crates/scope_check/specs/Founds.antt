-- Broken rules in order of rule, method and pc.
use Rattle.std.specs.Prelude.{ℕ, ◌≡◌, ◌≢◌, ◌⊎◌, ◌<◌, ◌≤◌, ◌==◌, Bool, true, if◌then◌else◌, nat_le, nat_lt, List, Option, Some, None, slice_get}
use Rattle.scope_check.specs.declared.found.Found.{Found}

-- the order of first breaks
abbrev pub IsNotAfter : (rule m pc r n p : ℕ) → Type 0
IsNotAfter rule m pc r n p = (rule < r) ⊎ ((rule ≡ r) × ((m < n) ⊎ ((m ≡ n) × (nat_le pc p ≡ true))))

abbrev pub comes_before : Found → Found → Bool
comes_before a b =
    if a.rule == b.rule then (if a.method.0 == b.method.0 then nat_le a.pc b.pc else nat_lt a.method.0 b.method.0) else nat_lt a.rule b.rule

abbrev pub earlier : Option Found → Found → Found
earlier None found = found
earlier (Some first) found = if comes_before first found then first else found

-- the number of the first test that is passed
abbrev pub IsLowest : List Bool → Option ℕ → Type 0
IsLowest tests None = (rule : ℕ) → slice_get tests rule ≢ Some true
IsLowest tests (Some lowest) = (slice_get tests lowest ≡ Some true) × ((rule : ℕ) → slice_get tests rule ≡ Some true → lowest ≤ rule)

-- what is kept comes before such a break, or is it
abbrev pub Covers : Option Found → (r n p : ℕ) → Type 0
Covers None r n p = ⊥
Covers (Some found) r n p = IsNotAfter found.rule found.method.0 found.pc r n p

abbrev pub IsFound : Option Found → (rule m pc : ℕ) → Type 0
IsFound kept rule m pc = (found : Found) × (kept ≡ Some found) × (found.rule ≡ rule) × (found.method.0 ≡ m) × (found.pc ≡ pc)

-- what is kept once the rules were tested at a place
pub record Keeps (tests : List Bool) (m pc : ℕ) (old new : Option Found) : Type 0 where
  pub from : (new ≡ old) ⊎ ((rule : ℕ) × (slice_get tests rule ≡ Some true) × IsFound new rule m pc)
  pub on : (r n p : ℕ) → Covers old r n p → Covers new r n p
  pub covers : (rule : ℕ) → slice_get tests rule ≡ Some true → Covers new rule m pc
