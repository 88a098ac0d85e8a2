-- The rows of the code are those of the table, opcode by opcode.
use Rattle.std.proofs.Common.{◌≡◌, ℕ, ◌<◌, List, slice_index_or, Option, None, refl, arith}
use Rattle.std.specs.Prelude.{map}
use Rattle.std.specs.List.{range_with_len}
use Rattle.std.proofs.lemmas.List.FromFn.{get_or-map-range_with_len}
use Rattle.dalvik_decode.specs.Table.{row_of, table}
use Rattle.dalvik_decode.specs.declared.table.TheConstants.{ROWS}
use Rattle.dalvik_decode.specs.declared.table.Row.{Row}

all_rows : ROWS ≡ map row_of (range_with_len 0 256)
unfolding row_of table
all_rows = refl

abbrev unused : Option Row
unused = None

-- a list made by a function of the place has that function's value at each place
at_place : (rows : List (Option Row)) → rows ≡ map row_of (range_with_len 0 256) → (op : ℕ) → op < 256 → slice_index_or rows op unused ≡ row_of op
at_place rows all op h = rw all (get_or-map-range_with_len row_of 0 256 op op unused h (omega arith))

pub rows_are : (op : ℕ) → op < 256 → slice_index_or ROWS op unused ≡ row_of op
rows_are = at_place ROWS all_rows
