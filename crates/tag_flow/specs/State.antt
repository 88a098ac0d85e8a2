-- The table while it is made, and what the returns of each method gave so far.
use Rattle.std.specs.Prelude.{ℕ, ◌≡◌, ◌<◌, ◌≤◌, ◌+◌, ◌*◌, ◌^◌, true, if◌then◌else◌, List, [], length, replicate, slice_index_or}
use Rattle.app_model.specs.TagTable.{TagParts, cells_of, row_at}
use Rattle.app_model.specs.Words.{code_len}
use Rattle.app_model.specs.declared.tag.Tag.{Tag}
use Rattle.flow_model.specs.TagFlow.{IsLive}
use Rattle.tag_flow.specs.declared.known.Spot.{Spot}
use Rattle.tag_rows.specs.Cells.{AreTagsOf, cells_len, room, tag_there}
use Rattle.tag_flow.specs.Known.{KnownParts, is_reached, registers_of, row_width}

-- the second table has one row: a cell for each method
pub record StateParts : Type 0 where
  pub table : TagParts
  pub answers : TagParts

abbrev pub answer_of : StateParts → (n : ℕ) → Tag
answer_of s n = tag_there s.answers 0 n

unfoldable pub state_room : StateParts → ℕ
state_room s = room s.table + room s.answers

pub record IsState (k : KnownParts) (s : StateParts) : Type 0 where
  pub registers : s.table.registers ≡ registers_of k.app
  pub rows : (m : ℕ) → cells_len s.table m ≡ (if is_reached k m then code_len k.app m * row_width k.app m else 0)
  pub answers : cells_len s.answers 0 ≡ length k.app.methods
  pub tags : AreTagsOf (length k.app.locks) s.table
  pub answer_tags : AreTagsOf (length k.app.locks) s.answers

-- an instruction of a method that is reached, with the width and the start of its row
pub record IsSpot (k : KnownParts) (spot : Spot) : Type 0 where
  pub reached : is_reached k spot.method.0 ≡ true
  pub index : spot.index < code_len k.app spot.method.0
  pub width : spot.width ≡ row_width k.app spot.method.0
  pub narrow : spot.width ≤ 2 ^ 16
  pub start : spot.start ≡ spot.index * spot.width

abbrev pub row_of : StateParts → Spot → List Tag
row_of s spot = row_at s.table spot.method.0 spot.index

-- something flows from there
pub record IsSource (k : KnownParts) (s : StateParts) (from : Spot) : Type 0 where
  pub state : IsState k s
  pub spot : IsSpot k from
  pub live : IsLive (row_of s from)

-- a row of Bot for each of the first methods
pub record AreRows (k : KnownParts) (n : ℕ) (rows : List (List ℕ)) : Type 0 where
  pub len : length rows ≡ n
  pub each : (m : ℕ) → m < n → slice_index_or rows m [] ≡ replicate (cells_of k.app (is_reached k) m) 0

pub record IsEmpty (k : KnownParts) (table : TagParts) : Type 0 where
  pub registers : table.registers ≡ registers_of k.app
  pub rows : AreRows k (length k.app.methods) table.cells
