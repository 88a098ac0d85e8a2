-- What the analysis speaks of: an application with its call graph, its component list and its tags.
use Rattle.std.specs.Prelude.{ℕ, ◌≡◌, ◌<◌, ◌≤◌, ◌==◌, Bool, true, false, List, length, Option, Some, None, Contains, slice_get, slice_index, slice_index_or}
use Rattle.std.specs.Int.{bit_at}
use Rattle.ns_base.specs.declared.rows.ComponentNo.{ComponentNo}
use Rattle.ns_base.specs.declared.rows.MethodNo.{MethodNo}
use Rattle.app_model.specs.declared.tag.Tag.{Tag}
use Rattle.app_model.specs.CallGraph.{GraphParts}
use Rattle.app_model.specs.CallGraph as graph
use Rattle.app_model.specs.Components.{ComponentParts, BelongsTo, callback_at}
use Rattle.app_model.specs.Parts.{AppParts}
use Rattle.app_model.specs.Sound.{IsSoundApp}
use Rattle.app_model.specs.TagTable.{TagParts}
use Rattle.app_model.specs.TagTable as table
use Rattle.app_model.specs.Words.{code_len}

pub record SubjectParts : Type 0 where
  pub app : AppParts
  pub graph : GraphParts
  pub list : List ComponentParts
  pub tags : TagParts
  -- the methods that the callbacks reach
  pub reached : List Bool
  -- for each component, the lock fields that it answers for, as bits
  pub answers : List ℕ
  -- the component whose creation clears an instance lock field
  pub owners : List (Option ComponentNo)

-- ---- what is read of it, by numbers; out of range a word says no, or has nothing
abbrev pub callees_at : SubjectParts → (m i : ℕ) → List MethodNo
callees_at x m i = graph.callees_at x.graph m i

abbrev pub outside_at : SubjectParts → (m i : ℕ) → Bool
outside_at x m i = graph.outside_at x.graph m i

abbrev pub row_at : SubjectParts → (m i : ℕ) → List Tag
row_at x m i = table.row_at x.tags m i

abbrev pub tag_at : SubjectParts → (m i r : ℕ) → Tag
tag_at x m i r = table.tag_at x.tags m i r

unfoldable pub is_reached : SubjectParts → (m : ℕ) → Bool
is_reached x m = slice_index_or x.reached m false

-- component c answers for lock field l
unfoldable pub answers_at : SubjectParts → (c l : ℕ) → Bool
answers_at x c l = bit_at (slice_index x.answers c) l == 1

abbrev pub owner_of : Option (Option ComponentNo) → Option ℕ
owner_of None = None
owner_of (Some None) = None
owner_of (Some (Some c)) = Some c.0

unfoldable pub owner_at : SubjectParts → (l : ℕ) → Option ℕ
owner_at x l = owner_of (slice_get x.owners l)

-- how many slots can hold a lock
unfoldable pub slot_count : SubjectParts → ℕ
slot_count x = length x.app.locks

-- ---- what always holds of it
-- one entry a method, one with an instruction; callbacks and callees are among them
pub record AreReached (x : SubjectParts) : Type 0 where
  pub methods : length x.reached ≡ length x.app.methods
  pub begins : (m : ℕ) → is_reached x m ≡ true → 0 < code_len x.app m
  pub callbacks : (c k m : ℕ) → callback_at x.list c k ≡ Some m → is_reached x m ≡ true
  pub callees : (m i : ℕ) (n : MethodNo) → is_reached x m ≡ true → Contains (callees_at x m i) n → is_reached x n.0 ≡ true

pub record IsSubject (x : SubjectParts) : Type 0 where
  pub sound : IsSoundApp x.app
  pub list : BelongsTo x.app x.list
  pub fits_graph : graph.FitsCode x.app x.graph
  pub fits_tags : table.FitsReached x.app (is_reached x) x.tags
  pub reaches : AreReached x
  pub slots : slot_count x ≤ 64
  pub answers : length x.answers ≡ length x.list
  pub owners : length x.owners ≡ slot_count x
  pub owned : (l c : ℕ) → owner_at x l ≡ Some c → c < length x.list

-- a method that is reached, and can be entered
pub record IsEnterable (x : SubjectParts) (m : ℕ) : Type 0 where
  pub there : m < length x.app.methods
  pub reached : is_reached x m ≡ true
  pub begins : 0 < code_len x.app m
