-- Cells of one row of a method that are joined into those of another one, one after the other.
use Rattle.std.specs.Prelude.{ℕ, ◌≡◌, ◌≢◌, ◌<◌, ◌+◌, ◌||◌, ◌≤◌, Bool, true, false, List, slice_index, slice_set}
use Rattle.std.specs.List.{All}
use Rattle.app_model.specs.TagTable.{HasCell, TagParts, cell_count, cell_of, tag_of}
use Rattle.app_model.specs.declared.tag.Tag.{Tag}
use Rattle.act_model.specs.Tags.{IsJoin}
use Rattle.tag_rows.specs.declared.change.Kept.{Kept}
use Rattle.tag_rows.specs.declared.runs.Pair.{Pair}
use Rattle.tag_rows.specs.Cells.{Joins, tag_there}
use Rattle.tag_rows.specs.Changes.{is_plain}

abbrev pub AreCells : List ℕ → Type 0
AreCells cells = All (λ cell. cell < cell_count) cells

abbrev pub tag_of_place : List ℕ → (place : ℕ) → Tag
tag_of_place cells place = tag_of (slice_index cells place)

-- a tag joined into one of a method's cells
pub data JoinsIn (old : List ℕ) (place : ℕ) (tag : Tag) : List ℕ → Bool → Type 0 where
  stays : IsJoin (tag_of_place old place) tag (tag_of_place old place) → JoinsIn old place tag old false
  rises : (x : Tag) → HasCell x → IsJoin (tag_of_place old place) tag x → x ≢ tag_of_place old place → JoinsIn old place tag (slice_set old place (cell_of x)) true

-- the tag of a register flows as it is
pub record IsKept (kept : Kept) (r : ℕ) (tag : Tag) : Type 0 where
  pub first : r ≢ kept.first
  pub second : r ≢ kept.second
  pub plain : kept.plain ≡ true → is_plain tag ≡ true

-- a change touches these registers by their tags alone
abbrev pub IsClear : Kept → (start end : ℕ) → Type 0
IsClear kept start end = (r : ℕ) → start ≤ r → r < end → (r ≢ kept.first) × (r ≢ kept.second)

-- their tags flow as they are, and have done so
abbrev pub AreJoined : Pair → (start end : ℕ) → List ℕ → Type 0
AreJoined pair start end cells = (r : ℕ) → start ≤ r → r < end → IsKept pair.kept r (tag_of_place cells (pair.from + r)) × (slice_index cells (pair.from + r) ≡ slice_index cells (pair.to + r))

-- registers of a row whose tags flow as they are, joined into another row: of a method's cells, and of a table
pub data RunIn (pair : Pair) (start : ℕ) (old : List ℕ) : (end : ℕ) → List ℕ → Bool → Type 0 where
  no_cell : RunIn pair start old start old false
  next_cell : (r : ℕ) (mid new : List ℕ) (x y : Bool) → RunIn pair start old r mid x → IsKept pair.kept r (tag_of_place mid (pair.from + r))
      → JoinsIn mid (pair.to + r) (tag_of_place mid (pair.from + r)) new y → RunIn pair start old (r + 1) new (x || y)

pub data Runs (pair : Pair) (m start : ℕ) (old : TagParts) : (end : ℕ) → TagParts → Bool → Type 0 where
  no_step : Runs pair m start old start old false
  next_step : (r : ℕ) (mid new : TagParts) (x y : Bool) → Runs pair m start old r mid x → IsKept pair.kept r (tag_there mid m (pair.from + r))
      → Joins mid m (pair.to + r) (tag_there mid m (pair.from + r)) new y → Runs pair m start old (r + 1) new (x || y)
