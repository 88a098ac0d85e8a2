-- One write to a table of tags.
use Rattle.std.specs.Prelude.{ℕ, ◌≡◌, ◌<◌, Bool, true, false, List, [], length, slice_index_or}
use Rattle.std.specs.List.{sum_by}
use Rattle.app_model.specs.TagTable.{TagParts, cell_at, tag_of}
use Rattle.app_model.specs.declared.tag.Tag.{Tag}
use Rattle.app_model.specs.declared.tag.Tag.TheVariants.{Bot, Zero, Solid, Held, Any, Field, New, Mixed}
use Rattle.act_model.specs.Tags.{Under}

-- the tag at a place of a method's cells
abbrev pub tag_there : TagParts → (m place : ℕ) → Tag
tag_there table m place = tag_of (cell_at table m place)

-- how many cells a method has
abbrev pub cells_len : TagParts → (m : ℕ) → ℕ
cells_len table m = length (slice_index_or table.cells m [])

-- how often a tag can still rise
abbrev pub height : Tag → ℕ
height Bot = 3
height Zero = 2
height Solid = 2
height (Held l) = 2
height Any = 1
height (Field l) = 1
height (New s) = 1
height Mixed = 0

abbrev pub row_room : List ℕ → ℕ
row_room cells = sum_by (λ (cell : ℕ). height (tag_of cell)) cells

-- a number that falls with each change
unfoldable pub room : TagParts → ℕ
room table = sum_by row_room table.cells

-- a tag of an application with so many lock fields
abbrev pub IsTagOf : (locks : ℕ) → Tag → Type 0
IsTagOf locks (Held l) = l.0 < locks
IsTagOf locks (Field l) = l.0 < locks
IsTagOf locks (New s) = s < 64
IsTagOf locks Bot = Unit {0}
IsTagOf locks Zero = Unit {0}
IsTagOf locks Solid = Unit {0}
IsTagOf locks Any = Unit {0}
IsTagOf locks Mixed = Unit {0}

pub record AreTagsOf (locks : ℕ) (table : TagParts) : Type 0 where
  pub each : (m place : ℕ) → IsTagOf locks (tag_there table m place)

-- each cell is under that of the other table
pub record Grows (old new : TagParts) : Type 0 where
  pub registers : new.registers ≡ old.registers
  pub cells : (m place : ℕ) → Under (tag_there old m place) (tag_there new m place)

-- the tag was joined into the cell. `least`: what is above the old tag of a cell, and above the joined tag where it is this
-- cell, is above the new tag
pub record Joins (old : TagParts) (m place : ℕ) (tag : Tag) (new : TagParts) (changed : Bool) : Type 0 where
  pub above : Under tag (tag_there new m place)
  pub grows : Grows old new
  pub least : (n k : ℕ) (top : Tag) → Under (tag_there old n k) top → (n ≡ m → k ≡ place → Under tag top) → Under (tag_there new n k) top
  pub len : (n : ℕ) → cells_len new n ≡ cells_len old n
  pub tags : (locks : ℕ) → AreTagsOf locks old → IsTagOf locks tag → AreTagsOf locks new
  pub same : changed ≡ false → new ≡ old
  pub falls : changed ≡ true → room new < room old
