-- The control flow of a method, with the first fault: by pc, and at one pc in the order of the faults.
use Rattle.std.specs.Prelude.{ℕ, ◌==◌, nat_lt, not, bit_and, Bool, List, [], ◌∷◌, if◌then◌else◌, Option, Some, None, Result, Ok, Err}
use Rattle.dalvik.specs.declared.ins.Ins.{Ins}
use Rattle.dalvik.specs.declared.body.Place.{Place}
use Rattle.dalvik.specs.Body.{BodyRows}
use Rattle.dalvik.specs.Registers.{registers_of}
use Rattle.dalvik_decode.specs.declared.faults.CodeFault.{CodeFault}
use Rattle.dalvik_decode.specs.declared.faults.CodeFault.TheVariants.{BadOpcode, Truncated, BadPayload, Register, Operand, ArgCount, Target, FallsOff, TryTarget, PayloadKind, InsSize, Memory}
use Rattle.dex_code.specs.declared.code.Handler.{Handler}
use Rattle.dex_code.specs.Content.{CodeContent, IsCodeOf}
use Rattle.method_graph.specs.declared.sweep.Piece.{Piece}
use Rattle.method_graph.specs.declared.sweep.Piece.TheVariants.{Whole, Payload, Broken}
use Rattle.method_graph.specs.declared.sweep.Row.{Row}
use Rattle.method_graph.specs.Exact.{◌>>=◌, behind}
use Rattle.method_graph.specs.Sweep.{found_at, sweep_of}
use Rattle.method_graph.specs.Registers.{first_past}
use Rattle.dalvik.specs.Naming.{naming_of}
use Rattle.method_graph.specs.Operands.{past_table, has_its_args, argument_words}
use Rattle.method_graph.specs.Flow.{successors_at, is_start}
use Rattle.method_graph.specs.Tries.{try_at, handlers_in, up_to_all, indices_of, may_leave, bad_target}

-- the fault of a number, where there is one
abbrev pub unless_some : {A : Type 0} → Option ℕ → (ℕ → CodeFault) → Result A CodeFault → Result A CodeFault
unless_some None fault r = r
unless_some (Some n) fault r = Err (fault n)

-- an instruction with its successors, and with the handlers of its try
abbrev pub place_with : List ℕ → List Row → List Handler → ℕ → Ins → List ℕ → Place
place_with bs rows handlers pc i successors = record {
  pc = pc;
  ins = i;
  successors = successors;
  handlers = indices_of rows (up_to_all bs handlers);
  leaves = may_leave bs handlers;
}

-- an instruction with its successors and its possible handlers, or its first fault
unfoldable pub place_at : List ℕ → CodeContent → List Row → ℕ → ℕ → Ins → Result Place CodeFault
place_at bs code rows pc next i =
    unless_some (first_past code.registers (registers_of i)) (Register pc)
    (unless_some (past_table bs (naming_of i)) (Operand pc)
    (if has_its_args bs i
    then (successors_at code.units rows pc next i >>= (λ successors. Ok (place_with bs rows (handlers_in code.handlers (try_at code.tries pc)) pc i successors)))
    else Err (ArgCount pc)))

-- a place in front of others
abbrev pub put_place : Result Place CodeFault → Result (List Place) CodeFault → Result (List Place) CodeFault
put_place (Ok place) more = behind (place ∷ []) more
put_place (Err e) more = Err e

abbrev pub put_piece : List ℕ → CodeContent → List Row → ℕ → Piece → Result (List Place) CodeFault → Result (List Place) CodeFault
put_piece bs code rows pc (Whole i next) more = put_place (place_at bs code rows pc next i) more
put_piece bs code rows pc (Payload ident next) more = more
put_piece bs code rows pc (Broken fault) more = Err fault

-- the places of all instructions among some of the rows, or the first fault
abbrev pub places_of : List ℕ → CodeContent → List Row → List Row → Result (List Place) CodeFault
places_of bs code rows [] = Ok []
places_of bs code rows (row ∷ more) = put_piece bs code rows row.pc row.piece (places_of bs code rows more)

-- the pc of a fault
abbrev pub pc_of : CodeFault → ℕ
pc_of (BadOpcode pc op) = pc
pc_of (Truncated pc) = pc
pc_of (BadPayload pc) = pc
pc_of (Register pc register) = pc
pc_of (Operand pc index) = pc
pc_of (ArgCount pc) = pc
pc_of (Target pc target) = pc
pc_of (FallsOff pc) = pc
pc_of (TryTarget pc) = pc
pc_of (PayloadKind pc) = pc
pc_of InsSize = 0
pc_of Memory = 0

-- a handler where no instruction starts is a fault at its own pc
abbrev pub with_target : Option ℕ → Result (List Place) CodeFault → Result (List Place) CodeFault
with_target None places = places
with_target (Some target) (Ok places) = Err (TryTarget target)
with_target (Some target) (Err fault) = if nat_lt target (pc_of fault) then Err (TryTarget target) else Err fault

abbrev pub body_of : ℕ → Result (List Place) CodeFault → Result BodyRows CodeFault
body_of registers (Ok places) = Ok (record { registers = registers; places = places })
body_of registers (Err e) = Err e

abbrev pub is_static : ℕ → Bool
is_static flags = not (bit_and flags 8 == 0)

-- by the rows of the sweep
unfoldable pub graph_by : List ℕ → ℕ → ℕ → CodeContent → List Row → Result BodyRows CodeFault
graph_by bs method flags code rows =
    if code.ins == argument_words bs (is_static flags) method
    then (if is_start (found_at rows 0)
    then body_of code.registers (with_target (bad_target rows None code.handlers) (places_of bs code rows rows))
    else Err (FallsOff 0))
    else Err InsSize

-- the body of a method with this row, these flags and this code, or the first fault
abbrev pub graph_of : List ℕ → ℕ → ℕ → CodeContent → Result BodyRows CodeFault
graph_of bs method flags code = graph_by bs method flags code (sweep_of code.units)

-- this code was read from the bytes
abbrev pub IsCodeIn : List ℕ → CodeContent → Type 0
IsCodeIn bs code = (off : ℕ) × IsCodeOf bs off code
