-- Reach and stores as bits: what they begin with, and what they come to.
use Rattle.std.specs.Prelude.{ℕ, ◌≡◌, ◌<◌, ◌≤◌, ◌==◌, ◌⊎◌, ◌↔◌, Bool, true, false, List, [], ◌∷◌, Contains, length, slice_index, slice_index_or}
use Rattle.std.specs.Int.{bit_at}
use Rattle.ns_base.specs.declared.rows.MethodNo.{MethodNo}
use Rattle.app_model.specs.CallGraph.{GraphParts}
use Rattle.app_model.specs.Parts.{AppParts}
use Rattle.app_model.specs.Reach.{Assigns, IsReached, StoresAt}
use Rattle.call_reach.specs.Spread.{Has}

-- ---- reach: the first bit
abbrev pub has_first_bit : (word : ℕ) → Bool
has_first_bit word = bit_at word 0 == 1

abbrev pub IsGiven : List MethodNo → ℕ → Type 0
IsGiven from m = (given : MethodNo) × Contains from given × (given.0 ≡ m)

-- the given methods got the first bit, where no word had it
pub record AreGiven (from : List MethodNo) (old new : List ℕ) : Type 0 where
  pub given : (m : ℕ) → IsGiven from m → Has new m 0
  pub only : (m : ℕ) → Has new m 0 → Has old m 0 ⊎ IsGiven from m
  pub len : length new ≡ length old

-- a mark for each method: whether calls reach it
pub record AreReached (app : AppParts) (graph : GraphParts) (from : List MethodNo) (marks : List Bool) : Type 0 where
  pub exact : (m : ℕ) → m < length app.methods → (slice_index_or marks m false ≡ true) ↔ IsReached graph from m
  pub len : length marks ≡ length app.methods

-- ---- bits of methods: each word joins those of the reach of its method, itself included
pub record AreGathered (app : AppParts) (graph : GraphParts) (own words : List ℕ) : Type 0 where
  pub exact : (m b : ℕ) → m < length app.methods → b < 64 → Has words m b ↔ ((n : ℕ) × IsReached graph (record { 0 = m } ∷ []) n × Has own n b)
  pub len : length words ≡ length app.methods

-- ---- stores: a bit for each lock field
abbrev pub Stores : AppParts → (m l : ℕ) → Type 0
Stores app m l = (i : ℕ) × StoresAt app m i l

-- the first methods got their own stores
pub record AreStores (app : AppParts) (bound : ℕ) (old new : List ℕ) : Type 0 where
  pub own : (m l : ℕ) → m < bound → l < 64 → Has new m l ↔ Stores app m l
  pub others : (m : ℕ) → bound ≤ m → slice_index new m ≡ slice_index old m
  pub len : length new ≡ length old

-- a mask for each method: the lock fields to which its reach stores
pub record AreAssigned (app : AppParts) (graph : GraphParts) (masks : List ℕ) : Type 0 where
  pub exact : (m l : ℕ) → m < length app.methods → l < 64 → Has masks m l ↔ Assigns app graph m l
  pub len : length masks ≡ length app.methods
