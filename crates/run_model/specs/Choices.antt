-- What may come next, in order, so described that its number and each one can be told without the list of all.
use Rattle.std.specs.Prelude.{ℕ, ◌+◌, ◌-◌, ◌*◌, ◌/◌, ◌%◌, ◌==◌, nat_lt, if◌then◌else◌, List, [], ◌∷◌, ◌++◌, length, map, flat_map, Option, Some, None, slice_get, slice_index_or, option_map}
use Rattle.run_model.specs.Heaps.{Value, Zero}

pub data Choices (A : Type 0) : Type 0 where
  Empty : Choices A
  Single : A → Choices A
  -- the first ones, and then the others
  Then : Choices A → Choices A → Choices A
  -- one for each value
  ForEach : List Value → (Value → A) → Choices A
  -- one for each way to choose a value of every word; those of the first word vary slowest
  ForEvery : List (List Value) → (List Value → A) → Choices A

-- one for each number of a list
abbrev pub by_each : {A : Type 0} → (ℕ → A) → List ℕ → Choices A
by_each f [] = Empty
by_each f (i ∷ is) = Then (Single (f i)) (by_each f is)

-- ---- as a list
abbrev pub chosen : List (List Value) → List (List Value)
chosen [] = [] ∷ []
chosen (word ∷ words) = flat_map (λ v. map (λ vs. v ∷ vs) (chosen words)) word

abbrev pub listed : {A : Type 0} → Choices A → List A
listed Empty = []
listed (Single a) = a ∷ []
listed (Then first others) = listed first ++ listed others
listed (ForEach values f) = map f values
listed (ForEvery words f) = map f (chosen words)

-- ---- how many there are
abbrev pub ways : List (List Value) → ℕ
ways [] = 1
ways (word ∷ words) = length word * ways words

abbrev pub counted : {A : Type 0} → Choices A → ℕ
counted Empty = 0
counted (Single a) = 1
counted (Then first others) = counted first + counted others
counted (ForEach values f) = length values
counted (ForEvery words f) = ways words

-- ---- number k of them
-- k as a number whose digits choose a value of each word
abbrev pub chosen_at : List (List Value) → ℕ → List Value
chosen_at [] k = []
chosen_at (word ∷ words) k = slice_index_or word (k / ways words) Zero ∷ chosen_at words (k % ways words)

abbrev pub picked : {A : Type 0} → Choices A → ℕ → Option A
picked Empty k = None
picked (Single a) k = if k == 0 then Some a else None
picked (Then first others) k = if nat_lt k (counted first) then picked first k else picked others (k - counted first)
picked (ForEach values f) k = option_map f (slice_get values k)
picked (ForEvery words f) k = if nat_lt k (ways words) then Some (f (chosen_at words k)) else None

-- another one where there is none
abbrev pub or_single : {A : Type 0} → Choices A → A → Choices A
or_single choices a = if counted choices == 0 then Single a else choices
