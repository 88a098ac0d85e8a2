-- A set of facts as words: eight entry statuses, or states, by eight statuses.
use Rattle.std.specs.Prelude.{ℕ, ◌≡◌, ◌<◌, ◌+◌, ◌⊎◌, Bool, true, false, if◌then◌else◌, length}
use Rattle.app_model.specs.Facts.{Fact, View, At, Ret, Exc}
use Rattle.app_model.specs.Subject.{SubjectParts, is_reached}
use Rattle.app_model.specs.Words.{code_len}
use Rattle.solution.specs.Words.{has}
use Rattle.solution.specs.Table.{Rows, word, row_len, room}

pub record Facts : Type 0 where
  -- a word for each instruction of each method that is reached
  pub code : Rows
  -- a word for each method, what it returns and what it throws; and one for each component, its states
  pub ends : Rows

unfoldable pub holds : Facts → Fact → Bool
holds t (At m e i s) = has (word t.code m i) e s
holds t (Ret m e s) = has (word t.ends 0 m) e s
holds t (Exc m e s) = has (word t.ends 1 m) e s
holds t (View c q s) = has (word t.ends 2 c) q s

-- how many places a method has: its instructions, where it is reached
unfoldable pub place_count : SubjectParts → ℕ → ℕ
place_count x m = if is_reached x m then code_len x.app m else 0

-- the places of a subject
pub record HasPlaces (x : SubjectParts) (t : Facts) : Type 0 where
  pub code : (m : ℕ) → row_len t.code m ≡ place_count x m
  pub rets : row_len t.ends 0 ≡ length x.app.methods
  pub excs : row_len t.ends 1 ≡ length x.app.methods
  pub views : row_len t.ends 2 ≡ length x.list

-- a number that falls with each new fact
unfoldable pub facts_room : Facts → ℕ
facts_room t = room t.code + room t.ends

pub record SameSize (old new : Facts) : Type 0 where
  pub code : (m : ℕ) → row_len new.code m ≡ row_len old.code m
  pub ends : (k : ℕ) → row_len new.ends k ≡ row_len old.ends k

-- the facts of a word came to a place, and all else is as before
pub record Joins (old : Facts) (place : ℕ → ℕ → Fact) (w : ℕ) (new : Facts) (changed : Bool) : Type 0 where
  pub there : (e s : ℕ) → has w e s ≡ true → holds new (place e s) ≡ true
  pub kept : (f : Fact) → holds old f ≡ true → holds new f ≡ true
  pub only : (f : Fact) → holds new f ≡ true → (holds old f ≡ true) ⊎ ((e : ℕ) × (s : ℕ) × (has w e s ≡ true) × (f ≡ place e s))
  pub size : SameSize old new
  pub same : changed ≡ false → new ≡ old
  pub falls : changed ≡ true → facts_room new < facts_room old

-- one fact came, and all else is as before
pub record Adds (old : Facts) (added : Fact) (new : Facts) : Type 0 where
  pub there : holds new added ≡ true
  pub kept : (f : Fact) → holds old f ≡ true → holds new f ≡ true
  pub only : (f : Fact) → holds new f ≡ true → (holds old f ≡ true) ⊎ (f ≡ added)
  pub size : SameSize old new
