-- The tag table: what is known of each register before each instruction. A tag is kept as a number, its cell.
use Rattle.std.specs.Prelude.{ℕ, zero, suc, ◌≡◌, ◌<◌, ◌+◌, ◌-◌, ◌*◌, nat_lt, Bool, if◌then◌else◌, List, [], ◌∷◌, length, map, Option, Some, None, slice_get, slice_index, slice_index_or, slice_set}
use Rattle.std.specs.List.{All, range_with_len}
use Rattle.ns_base.specs.declared.rows.LockNo.{LockNo}
use Rattle.app_model.specs.declared.tag.Tag.{Tag}
use Rattle.app_model.specs.declared.tag.Tag.TheVariants.{Bot, Zero, Solid, Held, Any, Field, New, Mixed}
use Rattle.app_model.specs.declared.rows.MethodRow.{MethodRow}
use Rattle.app_model.specs.declared.tag_table.TheConstants.{HELD, FIELD, NEW}
use Rattle.app_model.specs.Parts.{AppParts}
use Rattle.app_model.specs.Words.{code_len}

abbrev pub lock_no : ℕ → LockNo
lock_no l = record { 0 = l }

-- the tag of a cell
unfoldable pub tag_of : ℕ → Tag
tag_of cell =
    if nat_lt cell HELD then slice_index_or (Bot ∷ Zero ∷ Solid ∷ Any ∷ Mixed ∷ []) cell Bot
    else (if nat_lt cell FIELD then Held (lock_no (cell - HELD))
    else (if nat_lt cell NEW then Field (lock_no (cell - FIELD)) else New (cell - NEW)))

-- the cell of a tag
abbrev pub cell_of : Tag → ℕ
cell_of Bot = 0
cell_of Zero = 1
cell_of Solid = 2
cell_of Any = 3
cell_of Mixed = 4
cell_of (Held l) = HELD + l.0
cell_of (Field l) = FIELD + l.0
cell_of (New s) = NEW + s

-- cells stand for locks and sites below 64
abbrev pub cell_count : ℕ
cell_count = NEW + 64

-- a tag that has a cell of its own: its lock field or site is below 64
abbrev pub HasCell : Tag → Type 0
HasCell (Held l) = l.0 < 64
HasCell (Field l) = l.0 < 64
HasCell (New s) = s < 64
HasCell Bot = Unit {0}
HasCell Zero = Unit {0}
HasCell Solid = Unit {0}
HasCell Any = Unit {0}
HasCell Mixed = Unit {0}

pub record TagParts : Type 0 where
  -- the number of registers of each method
  pub registers : List ℕ
  -- the cells of each method that is reached: a row for each instruction
  pub cells : List (List ℕ)

-- a row has a cell for each register, and the last one for the result cell
abbrev pub width_at : TagParts → (m : ℕ) → ℕ
width_at table m = slice_index table.registers m + 1

-- a cell of Bot out of range, and in a method that is not reached
unfoldable pub cell_at : TagParts → (m place : ℕ) → ℕ
cell_at table m place = slice_index (slice_index_or table.cells m []) place

-- the tags before instruction i of method m: always one for each register, and one for the result cell
unfoldable pub row_at : TagParts → (m i : ℕ) → List Tag
row_at table m i = map (λ r. tag_of (cell_at table m (i * width_at table m + r))) (range_with_len 0 (width_at table m))

-- the tag of register r there
abbrev pub tag_at : TagParts → (m i r : ℕ) → Tag
tag_at table m i r = slice_index_or (row_at table m i) r Bot

-- the table with another cell at a place of a method
unfoldable pub with_cell : TagParts → (m place cell : ℕ) → TagParts
with_cell table m place cell =
    record { registers = table.registers; cells = slice_set table.cells m (slice_set (slice_index_or table.cells m []) place cell) }

pub record IsTagTable (table : TagParts) : Type 0 where
  pub methods : length table.cells ≡ length table.registers
  pub cells : All (λ (cells : List ℕ). All (λ cell. cell < cell_count) cells) table.cells

-- ---- a table of an application, of whose methods a test says which are reached
-- a row for each instruction of these, nothing for the others, and lock fields of the application alone
pub record FitsReached (app : AppParts) (reached : ℕ → Bool) (table : TagParts) : Type 0 where
  pub registers : table.registers ≡ map (λ (method : MethodRow). method.registers) app.methods
  pub rows : (m : ℕ) → length (slice_index_or table.cells m []) ≡ (if reached m then code_len app m * width_at table m else 0)
  pub held : (m i r : ℕ) (l : LockNo) → tag_at table m i r ≡ Held l → l.0 < length app.locks
  pub fields : (m i r : ℕ) (l : LockNo) → tag_at table m i r ≡ Field l → l.0 < length app.locks

abbrev pub width_of : Option MethodRow → ℕ
width_of None = 0
width_of (Some method) = method.registers + 1

-- how many cells it has for method m, for the first methods, and for all
abbrev pub cells_of : AppParts → (reached : ℕ → Bool) → (m : ℕ) → ℕ
cells_of app reached m = if reached m then code_len app m * width_of (slice_get app.methods m) else 0

abbrev pub cells_below : AppParts → (reached : ℕ → Bool) → (m : ℕ) → ℕ
cells_below app reached zero = 0
cells_below app reached (suc m) = cells_below app reached m + cells_of app reached m

abbrev pub cell_total : AppParts → (reached : ℕ → Bool) → ℕ
cell_total app reached = cells_below app reached (length app.methods)
