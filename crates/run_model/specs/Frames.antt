-- The states of the machine, the values that are free, and how it goes on from an instruction, or throws.
use Rattle.std.specs.Prelude.{ℕ, pred, if◌then◌else◌, List, [], ◌∷◌, ◌++◌, map, length, Option, Some, None, slice_get, slice_set, position, bytes_eq, codes}
use Rattle.std.specs.List.{range_with_len}
use Rattle.dalvik.specs.declared.body.Place.{Place}
use Rattle.app_model.specs.Names.{string_name}
use Rattle.app_model.specs.Parts.{AppParts}
use Rattle.app_model.specs.Subject.{SubjectParts}
use Rattle.app_model.specs.Words.{place_at, successor_at, leaves_at}
use Rattle.act_model.specs.declared.act.Gives.{Gives}
use Rattle.act_model.specs.declared.act.Gives.TheVariants as gives
use Rattle.act_model.specs.declared.act.Throws.{Throws}
use Rattle.act_model.specs.declared.act.Throws.TheVariants.{Never, ByChoice, WhereZero}
use Rattle.act_model.specs.declared.act.Written.{Written}
use Rattle.act_model.specs.declared.act.Written.TheVariants as written
use Rattle.run_model.specs.Choices.{Choices, Empty, Single, Then, by_each}
use Rattle.run_model.specs.Heaps.{Value, Zero, Nonzero, Object, Heap, is_null}

-- ---- states
-- a method that runs: the values of its registers, and of the result cell as the last one
pub record Frame : Type 0 where
  pub method : ℕ
  pub index : ℕ
  pub registers : List Value

-- the states of all components, and the callback that runs: an edge of a component
pub record Callback : Type 0 where
  pub states : List ℕ
  pub component : ℕ
  pub edge : ℕ

-- why a run is over: a throw left the first frame; a value came where Android has none such; a lock went where it is
-- not followed
pub data Reason : Type 0 where
  Uncaught : Reason
  Stuck : Reason
  Escape : Reason

pub data State : Type 0 where
  Idle : (states : List ℕ) (h : Heap) → State
  -- the frame that runs comes first
  Running : (callback : Callback) (h : Heap) (frames : List Frame) → State
  -- the callback has returned, and its component is in the state after it
  AtEnd : (callback : Callback) (h : Heap) → State
  Over : (why : Reason) → State

-- ---- free values
abbrev pub free_numbers : List Value
free_numbers = Zero ∷ Nonzero ∷ []

-- an object of each type that the application names, and of one that it does not name
abbrev pub free_objects : AppParts → List Value
free_objects app = map (λ t. Object (Some t)) (range_with_len 0 (length app.types)) ++ Object None ∷ []

abbrev pub free_references : AppParts → List Value
free_references app = Zero ∷ free_objects app

-- what a call that goes outside may answer
abbrev pub answers_of : AppParts → Gives → List Value
answers_of app gives.Nothing = Zero ∷ []
answers_of app gives.Number = free_numbers
answers_of app gives.Object = free_references app

-- an object of the type of a descriptor, or of a type that the application does not name
abbrev pub object_of : AppParts → List ℕ → Value
object_of app descriptor = Object (position (λ text. bytes_eq text descriptor) app.types)

abbrev pub class_name : List ℕ
class_name = codes "Ljava/lang/Class;"

-- the values that may be written; of a pair those of each half
abbrev pub written_values : AppParts → Written → List Value
written_values app written.Zero = Zero ∷ []
written_values app written.Nonzero = Nonzero ∷ []
written_values app written.Number = free_numbers
written_values app written.Reference = free_references app
written_values app written.FreeObject = free_objects app
written_values app written.Pair = free_numbers
written_values app written.Text = object_of app string_name ∷ []
written_values app written.ClassObject = object_of app class_name ∷ []
written_values app (written.Typed kind) = Object (Some kind.0) ∷ []

-- ---- on and off an instruction
-- where the machine stands in a callback: its heap, the frame that runs, and the frames below that one
pub record Here : Type 0 where
  pub subject : SubjectParts
  pub callback : Callback
  pub heap : Heap
  pub frame : Frame
  pub rest : List Frame

abbrev pub here_of : SubjectParts → Callback → Heap → Frame → List Frame → Here
here_of x at h f rest = record { subject = x; callback = at; heap = h; frame = f; rest = rest }

abbrev pub with_heap : Here → Heap → Here
with_heap here h = here_of here.subject here.callback h here.frame here.rest

-- a register that is not there has no value
abbrev pub register : Frame → ℕ → Option Value
register f r = slice_get f.registers r

abbrev pub result_index : Frame → ℕ
result_index f = pred (length f.registers)

-- at instruction i of the same method
abbrev pub moves : Here → List Value → ℕ → State
moves here registers i =
    Running here.callback here.heap (record { method = here.frame.method; index = i; registers = registers } ∷ here.rest)

abbrev pub goes_to : Here → List Value → Option ℕ → State
goes_to here registers None = Over Stuck
goes_to here registers (Some i) = moves here registers i

-- on to successor k
abbrev pub goes_on : Here → List Value → ℕ → State
goes_on here registers k = goes_to here registers (successor_at here.subject.app here.frame.method here.frame.index k)

-- on with a value in a register; and in the result cell
abbrev pub writes : Here → ℕ → Value → State
writes here to v = goes_on here (slice_set here.frame.registers to v) 0

abbrev pub answers : Here → Value → State
answers here v = writes here (result_index here.frame) v

abbrev pub handlers_of : Option Place → List ℕ
handlers_of None = []
handlers_of (Some place) = place.handlers

-- a throw: the handlers that it can come to, and where it can leave, what it does in the frame below
abbrev pub unwinds : SubjectParts → Callback → Heap → List Frame → Choices State
unwinds x at h [] = Single (Over Uncaught)
unwinds x at h (f ∷ rest) =
    Then (by_each (moves (here_of x at h f rest) f.registers) (handlers_of (place_at x.app f.method f.index)))
    (if leaves_at x.app f.method f.index then unwinds x at h rest else Empty)

abbrev pub throws_from : Here → Choices State
throws_from here = unwinds here.subject here.callback here.heap (here.frame ∷ here.rest)

-- ---- where an instruction throws
-- by a register that must not be null
abbrev pub null_options : Here → Option Value → Choices State → Choices State
null_options here None normal = Single (Over Stuck)
null_options here (Some v) normal = if is_null v then throws_from here else normal

abbrev pub throws_options : Here → Throws → Choices State → Choices State
throws_options here Never normal = normal
throws_options here ByChoice normal = Then normal (throws_from here)
throws_options here (WhereZero r) normal = null_options here (register here.frame r) normal
