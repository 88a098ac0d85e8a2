-- Where control goes from an instruction.
use Rattle.std.specs.Prelude.{ℕ, ℤ, ◌+◌, ◌%◌, ◌^◌, ◌==◌, ◌&&◌, not, Bool, true, false, List, [], ◌∷◌, if◌then◌else◌, Option, Some, None, Result, Ok, Err}
use Rattle.std.specs.Int.{cast_unsigned, w32}
use Rattle.dalvik.specs.declared.ins.Ins.{Ins}
use Rattle.dalvik.specs.declared.ins.Ins.TheVariants as ins
use Rattle.dalvik_decode.specs.declared.faults.CodeFault.{CodeFault}
use Rattle.dalvik_decode.specs.declared.faults.CodeFault.TheVariants.{Target, FallsOff, PayloadKind}
use Rattle.dalvik_decode.specs.declared.ident.TheConstants.{PACKED_SWITCH_PAYLOAD, SPARSE_SWITCH_PAYLOAD, FILL_ARRAY_DATA_PAYLOAD}
use Rattle.dalvik.specs.declared.opcode.TheConstants.{PACKED_SWITCH}
use Rattle.dalvik_decode.specs.Payloads.{Content, Packed, Sparse, Array, content_at}
use Rattle.method_graph.specs.declared.sweep.Row.{Row}
use Rattle.method_graph.specs.declared.sweep.Found.{Found}
use Rattle.method_graph.specs.declared.sweep.Found.TheVariants as found
use Rattle.method_graph.specs.declared.flow.Flow.{Flow}
use Rattle.method_graph.specs.declared.flow.Flow.TheVariants.{Next, Pause, End, Jump, Branch, Select, Fill}
use Rattle.method_graph.specs.Sweep.{found_at}
use Rattle.method_graph.specs.Exact.{◌>>=◌, behind}

-- the first unit of the payload that a switch names
abbrev pub table_ident : ℕ → ℕ
table_ident op = if op == PACKED_SWITCH then PACKED_SWITCH_PAYLOAD else SPARSE_SWITCH_PAYLOAD

abbrev pub flow_of : Ins → Flow
flow_of ins.Nop = Pause
flow_of ins.ReturnVoid = End
flow_of (ins.Return op from) = End
flow_of (ins.Throw object) = End
flow_of (ins.Goto op offset) = Jump offset
flow_of (ins.IfPair op left right offset) = Branch offset
flow_of (ins.IfZero op value offset) = Branch offset
flow_of (ins.Switch op value offset) = Select (table_ident op) offset
flow_of (ins.FillArrayData array offset) = Fill offset
flow_of _ = Next

-- the pc at an offset, counted modulo 2 ^ 32. Code has far fewer units, so no offset leads round to a unit.
abbrev pub target_of : ℕ → ℤ → ℕ
target_of pc offset = (pc + cast_unsigned w32 offset) % 2 ^ 32

-- whether control goes on to the next instruction, by what stands there: not from a nop to a payload
abbrev pub goes_on : Flow → Found → Bool
goes_on Next next = true
goes_on Pause found.Nothing = true
goes_on Pause (found.Start i) = true
goes_on Pause (found.Payload ident) = false
goes_on End next = false
goes_on (Jump offset) next = false
goes_on (Branch offset) next = true
goes_on (Select ident offset) next = true
goes_on (Fill offset) next = true

abbrev pub is_start : Found → Bool
is_start found.Nothing = false
is_start (found.Start i) = true
is_start (found.Payload ident) = false

abbrev pub is_payload : ℕ → Found → Bool
is_payload ident found.Nothing = false
is_payload ident (found.Start i) = false
is_payload ident (found.Payload first) = first == ident

-- whether the payload that the instruction names is there, of its kind
abbrev pub has_payload : List Row → ℕ → Flow → Bool
has_payload rows pc Next = true
has_payload rows pc Pause = true
has_payload rows pc End = true
has_payload rows pc (Jump offset) = true
has_payload rows pc (Branch offset) = true
has_payload rows pc (Select ident offset) = is_payload ident (found_at rows (target_of pc offset))
has_payload rows pc (Fill offset) = is_payload FILL_ARRAY_DATA_PAYLOAD (found_at rows (target_of pc offset))

-- the offsets in a switch's payload
abbrev pub offsets_in : Option Content → List ℤ
offsets_in None = []
offsets_in (Some (Packed first targets)) = targets
offsets_in (Some (Sparse keys targets)) = targets
offsets_in (Some (Array width count)) = []

-- the offsets of a branch or a switch; a switch without its payload has none
abbrev pub offsets_of : List ℕ → List Row → ℕ → Flow → List ℤ
offsets_of units rows pc Next = []
offsets_of units rows pc Pause = []
offsets_of units rows pc End = []
offsets_of units rows pc (Jump offset) = offset ∷ []
offsets_of units rows pc (Branch offset) = offset ∷ []
offsets_of units rows pc (Select ident offset) =
    if is_payload ident (found_at rows (target_of pc offset)) then offsets_in (content_at units (target_of pc offset)) else []
offsets_of units rows pc (Fill offset) = []

-- the index of the instruction that stands there
abbrev pub index_or : Found → CodeFault → Result ℕ CodeFault
index_or found.Nothing fault = Err fault
index_or (found.Start i) fault = Ok i
index_or (found.Payload ident) fault = Err fault

-- the index of the instruction at a target
abbrev pub index_to : List Row → ℕ → ℕ → Result ℕ CodeFault
index_to rows pc target = index_or (found_at rows target) (Target pc target)

abbrev pub put_first : Result ℕ CodeFault → Result (List ℕ) CodeFault → Result (List ℕ) CodeFault
put_first (Ok i) more = behind (i ∷ []) more
put_first (Err e) more = Err e

-- the indices of the instructions at the offsets, or the first fault
abbrev pub indices_at : List Row → ℕ → List ℤ → Result (List ℕ) CodeFault
indices_at rows pc [] = Ok []
indices_at rows pc (offset ∷ more) = put_first (index_to rows pc (target_of pc offset)) (indices_at rows pc more)

-- the index of the next instruction, where control goes on to it
abbrev pub front_of : Flow → Found → List ℕ
front_of flow found.Nothing = []
front_of flow (found.Start i) = if goes_on flow (found.Start i) then i ∷ [] else []
front_of flow (found.Payload ident) = []

-- the successors of an instruction: the next one first, then the targets in their order
unfoldable pub successors_at : List ℕ → List Row → ℕ → ℕ → Ins → Result (List ℕ) CodeFault
successors_at units rows pc next i = do
  all ← behind (front_of (flow_of i) (found_at rows next)) (indices_at rows pc (offsets_of units rows pc (flow_of i)))
  if goes_on (flow_of i) (found_at rows next) && not (is_start (found_at rows next)) then Err (FallsOff pc)
      else (if has_payload rows pc (flow_of i) then Ok all else Err (PayloadKind pc))
