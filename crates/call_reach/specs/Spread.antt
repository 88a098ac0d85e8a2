-- Words of bits at nodes, which links take on.
use Rattle.std.specs.Prelude.{ℕ, ◌≡◌, ◌<◌, ◌-◌, ◌^◌, ◌↔◌, Bool, true, false, List, Contains, length, slice_index, slice_index_or}
use Rattle.std.specs.Int.{bit_at}
use Rattle.std.specs.List.{sum_by}
use Rattle.call_reach.specs.declared.links.Link.{Link}

abbrev pub Has : List ℕ → (node bit : ℕ) → Type 0
Has words node bit = bit_at (slice_index words node) bit ≡ 1

-- links lead to a node from one of which `start` holds
pub data Spreads (links : List Link) (start : ℕ → Type 0) : ℕ → Type 0 where
  begins : {node : ℕ} → start node → Spreads links start node
  goes_on : (link : Link) → Contains links link → Spreads links start link.from → Spreads links start link.to

-- each node has the bits of all nodes from which links lead to it, and no more
pub record IsSpread (links : List Link) (old new : List ℕ) : Type 0 where
  pub exact : (node bit : ℕ) → Has new node bit ↔ Spreads links (λ (start : ℕ). Has old start bit) node
  pub len : length new ≡ length old

abbrev pub IsWithin : ℕ → Link → Type 0
IsWithin nodes link = (link.from < nodes) × (link.to < nodes)

abbrev pub AreWithin : ℕ → List Link → Type 0
AreWithin nodes links = (link : Link) → Contains links link → IsWithin nodes link

-- ---- what a part of the work does
pub record Keeps (links : List Link) (old new : List ℕ) : Type 0 where
  pub spreads : (node bit : ℕ) → Has new node bit → Spreads links (λ (start : ℕ). Has old start bit) node
  pub kept : (node bit : ℕ) → Has old node bit → Has new node bit
  pub len : length new ≡ length old

-- how far the words can still grow
abbrev pub word_room : ℕ → ℕ
word_room word = 2 ^ 64 - word

unfoldable pub room : List ℕ → ℕ
room words = sum_by word_room words

-- a part that says whether it changed anything: if not, this is done
pub record Turn (links : List Link) (goal : List ℕ → Type 0) (old new : List ℕ) (changed : Bool) : Type 0 where
  pub keeps : Keeps links old new
  pub same : changed ≡ false → new ≡ old
  pub falls : changed ≡ true → room new < room old
  pub done : changed ≡ false → goal new

abbrev pub IsPassed : Link → List ℕ → Type 0
IsPassed link words = (bit : ℕ) → Has words link.from bit → Has words link.to bit

abbrev pub AllPassed : List Link → List ℕ → Type 0
AllPassed links words = (link : Link) → Contains links link → IsPassed link words

abbrev pub PassedBelow : List Link → (bound : ℕ) → List ℕ → Type 0
PassedBelow links bound words = (k : ℕ) (link : Link) → k < bound → slice_index_or links k link ≡ link → IsPassed link words
