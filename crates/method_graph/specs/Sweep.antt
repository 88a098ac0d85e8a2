-- The linear sweep: what stands one after another in the code units, from the front.
use Rattle.std.specs.Prelude.{ℕ, zero, suc, ◌≡◌, ◌≤◌, slice_index_or, ◌+◌, ◌==◌, nat_lt, ◌||◌, Bool, List, [], ◌∷◌, length, slice_index, if◌then◌else◌, Option, Some, None, Result, Ok, Err}
use Rattle.dalvik.specs.declared.ins.Ins.{Ins}
use Rattle.dalvik_decode.specs.declared.faults.CodeFault.{CodeFault}
use Rattle.dalvik_decode.specs.declared.faults.CodeFault.TheVariants.{BadPayload}
use Rattle.dalvik_decode.specs.declared.ident.TheConstants.{PACKED_SWITCH_PAYLOAD, SPARSE_SWITCH_PAYLOAD, FILL_ARRAY_DATA_PAYLOAD}
use Rattle.dalvik_decode.specs.Decoding.{decoded_at}
use Rattle.dalvik_decode.specs.Payloads.{payload_len_at}
use Rattle.method_graph.specs.declared.sweep.Piece.{Piece}
use Rattle.method_graph.specs.declared.sweep.Piece.TheVariants.{Whole, Payload, Broken}
use Rattle.method_graph.specs.declared.sweep.Row.{Row}
use Rattle.method_graph.specs.declared.sweep.Found.{Found}
use Rattle.method_graph.specs.declared.sweep.Found.TheVariants as found

-- a unit with which a payload begins
abbrev pub is_ident : ℕ → Bool
is_ident unit = unit == PACKED_SWITCH_PAYLOAD || (unit == SPARSE_SWITCH_PAYLOAD || unit == FILL_ARRAY_DATA_PAYLOAD)

abbrev pub payload_piece : Option ℕ → List ℕ → ℕ → Piece
payload_piece None units pc = Broken (BadPayload pc)
payload_piece (Some count) units pc =
    if nat_lt (length units) (pc + count) then Broken (BadPayload pc)
    else Payload (slice_index units pc) (pc + count)

abbrev pub instruction_piece : Result (Ins × ℕ) CodeFault → Piece
instruction_piece (Ok read) = Whole read.0 read.1
instruction_piece (Err fault) = Broken fault

-- what begins at a pc: a payload, an instruction, or neither
unfoldable pub piece_at : List ℕ → ℕ → Piece
piece_at units pc =
    if is_ident (slice_index units pc) then payload_piece (payload_len_at units pc) units pc
    else instruction_piece (decoded_at units pc)

-- where the sweep goes on after a piece; it ends where there is none
abbrev pub next_of : Piece → Option ℕ
next_of (Whole ins next) = Some next
next_of (Payload ident next) = Some next
next_of (Broken fault) = None

abbrev pub row_at : List ℕ → ℕ → Row
row_at units pc = record { pc = pc; piece = piece_at units pc }

abbrev pub rows_at : (ℕ → List Row) → Option ℕ → List Row
rows_at rows None = []
rows_at rows (Some next) = rows next

-- the rows of the sweep from a pc on, so many at most
abbrev pub rows_from : ℕ → List ℕ → ℕ → List Row
rows_from zero units pc = []
rows_from (suc most) units pc =
    if nat_lt pc (length units) then row_at units pc ∷ rows_at (rows_from most units) (next_of (piece_at units pc))
    else []

-- all rows, at most as many as there are units
unfoldable pub sweep_of : List ℕ → List Row
sweep_of units = rows_from (length units) units 0

-- what a row says of its pc, behind so many instructions. A place where neither an instruction nor a
-- payload stands counts as an instruction.
abbrev pub stands : ℕ → Piece → Found
stands i (Whole ins next) = found.Start i
stands i (Payload ident next) = found.Payload ident
stands i (Broken fault) = found.Start i

-- how many instructions a piece is
abbrev pub instructions_in : Piece → ℕ
instructions_in (Whole ins next) = 1
instructions_in (Payload ident next) = 0
instructions_in (Broken fault) = 1

abbrev pub instruction_count : List Row → ℕ
instruction_count [] = 0
instruction_count (row ∷ rows) = instructions_in row.piece + instruction_count rows

-- what stands at a pc, by rows behind so many instructions
abbrev pub found_from : ℕ → List Row → ℕ → Found
found_from i [] pc = found.Nothing
found_from i (row ∷ rows) pc =
    if row.pc == pc then stands i row.piece else found_from (i + instructions_in row.piece) rows pc

-- what stands at a pc
unfoldable pub found_at : List Row → ℕ → Found
found_at rows pc = found_from 0 rows pc

-- each pc of the table, and each past its end, is as the rows say
abbrev pub IsTable : List Found → List Row → Type 0
IsTable table rows = (pc : ℕ) → slice_index_or table pc found.Nothing ≡ found_at rows pc

-- the rows, how many units there are, and the pc after the last row
pub record SweepRows : Type 0 where
  pub rows : List Row
  pub units : ℕ
  pub reached : ℕ

-- nothing begins from there on
abbrev pub HasReached : List Row → ℕ → Type 0
HasReached rows end = (pc : ℕ) → end ≤ pc → found_at rows pc ≡ found.Nothing

-- the fields of a sweep belong together
pub record IsSound (table : List Found) (rows : List Row) (instructions reached : ℕ) : Type 0 where
  pub count : instructions ≡ instruction_count rows
  pub few : instructions ≤ reached
  pub each : IsTable table rows
  pub rest : HasReached rows reached

-- the whole sweep over the units
pub record IsSweep (sweep : SweepRows) (units : List ℕ) : Type 0 where
  pub rows : sweep.rows ≡ sweep_of units
  pub len : sweep.units ≡ length units
