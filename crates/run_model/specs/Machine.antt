-- The modelled Android as a machine: what may come next in each state, and runs. It reads no tags of the subject.
use Rattle.std.specs.Prelude.{ℕ, suc, ◌+◌, ◌%◌, Bool, true, false, ◌==◌, if◌then◌else◌, List, [], ◌∷◌, length, replicate, Option, Some, None, slice_get, slice_index, slice_index_or, slice_set, flat_map}
use Rattle.ns_base.specs.declared.rows.LockNo.{LockNo}
use Rattle.ns_base.specs.declared.rows.TypeNo.{TypeNo}
use Rattle.dalvik.specs.declared.body.Place.{Place}
use Rattle.dalvik.specs.Descriptors.{is_reference, words_of}
use Rattle.app_model.specs.declared.component.Edge.{Edge}
use Rattle.app_model.specs.declared.rows.MethodRow.{MethodRow}
use Rattle.app_model.specs.Components.{ComponentParts, edges_of, edge_at, callback_at}
use Rattle.app_model.specs.Names.{type_text}
use Rattle.app_model.specs.Parts.{AppParts, ClassParts, ProtoParts}
use Rattle.app_model.specs.Subject.{SubjectParts, slot_count}
use Rattle.app_model.specs.Words.{place_at}
use Rattle.act_model.specs.declared.act.Act.{Act}
use Rattle.act_model.specs.declared.act.Act.TheVariants.{Go, Test, Copy, TakeResult, Write, Fill, ReadSlot, WriteSlot, Give, Check, Throw, Return, Call}
use Rattle.act_model.specs.declared.act.Returned.{Returned}
use Rattle.act_model.specs.declared.act.Returned.TheVariants as returned
use Rattle.act_model.specs.Acts.{act_at}
use Rattle.act_model.specs.Changes.{is_pair, put}
use Rattle.flow_model.specs.Rules.{clears}
use Rattle.run_model.specs.Choices.{Choices, Empty, Single, Then, ForEach, ForEvery, by_each, counted, listed, or_single, picked}
use Rattle.run_model.specs.Heaps.{Value, Zero, Nonzero, Object, LockRef, Heap, cell, cell_value, is_lock, is_null, is_owned, lock_at, with_stored, with_null, with_cleared}
use Rattle.run_model.specs.Frames.{Frame, Callback, State, free_numbers, free_references, written_values, Here, here_of, with_heap, register, result_index, moves, goes_on, writes, answers, throws_from, throws_options, Stuck, Escape, Idle, Running, AtEnd, Over}
use Rattle.run_model.specs.Calls.{entry_values, entered_frame, call_options, fill_options}

-- ---- the instructions
-- on by each successor; the nop before a payload has none
abbrev pub successors_of : Option Place → List ℕ
successors_of None = []
successors_of (Some place) = place.successors

abbrev pub go_options : Here → Choices State
go_options here = by_each (moves here here.frame.registers) (successors_of (place_at here.subject.app here.frame.method here.frame.index))

-- the branch of a test by its value
abbrev pub branch : (way : ℕ) → (is_zero : Bool) → ℕ
branch way true = way
branch way false = if way == 0 then 1 else 0

abbrev pub test_options : Here → ℕ → Option Value → Choices State
test_options here way None = Single (Over Stuck)
test_options here way (Some v) = Single (goes_on here here.frame.registers (branch way (is_null v)))

-- a copy, of a pair too: both are read before either is written
abbrev pub copy_options : Here → ℕ → (wide : Bool) → (first second : Option Value) → Choices State
copy_options here to wide None second = Single (Over Stuck)
copy_options here to false (Some v) second = Single (writes here to v)
copy_options here to true (Some v) None = Single (Over Stuck)
copy_options here to true (Some v) (Some w) = Single (goes_on here (put true here.frame.registers to v w) 0)

abbrev pub take_options : Here → ℕ → Option Value → Choices State
take_options here to None = Single (Over Stuck)
take_options here to (Some v) = Single (writes here to v)

-- one value, or two of a pair, of which the first varies slowest
abbrev pub written_pairs : Here → ℕ → (first second : List Value) → Choices State
written_pairs here to [] second = Empty
written_pairs here to (v ∷ first) second =
    Then (ForEach second (λ w. goes_on here (put true here.frame.registers to v w) 0)) (written_pairs here to first second)

abbrev pub written_options : Here → ℕ → (wide : Bool) → List Value → Choices State
written_options here to false values = ForEach values (writes here to)
written_options here to true values = written_pairs here to values values

-- a store to a lock field: of null, or of a lock that no field owned before
abbrev pub store_options : Here → ℕ → Value → Choices State
store_options here l Zero = Single (goes_on (with_heap here (with_null here.heap l)) here.frame.registers 0)
store_options here l Nonzero = Single (Over Stuck)
store_options here l (Object type) = Single (Over Stuck)
store_options here l (LockRef i) =
    if is_owned (lock_at here.heap i).owner
    then Single (Over Escape) else Single (goes_on (with_heap here (with_stored here.heap l i)) here.frame.registers 0)

abbrev pub write_options : Here → LockNo → Option Value → Choices State
write_options here l None = Single (Over Stuck)
write_options here l (Some v) = store_options here l.0 v

-- a value goes where a lock is not followed
abbrev pub give_options : Here → Option Value → Choices State
give_options here None = Single (Over Stuck)
give_options here (Some v) = if is_lock v then Single (Over Escape) else Single (goes_on here here.frame.registers 0)

abbrev pub throw_options : Here → Option Value → Choices State
throw_options here None = Single (Over Stuck)
throw_options here (Some v) = if is_lock v then Single (Over Escape) else throws_from here

-- a return from the last frame ends the callback
abbrev pub ended : Callback → Heap → Option Edge → State
ended at h None = Over Stuck
ended at h (Some edge) = AtEnd (record { states = slice_set at.states at.component edge.to; component = at.component; edge = at.edge }) h

abbrev pub resumes : SubjectParts → Callback → Heap → List Frame → Value → State
resumes x at h [] v = ended at h (edge_at x.list at.component at.edge)
resumes x at h (f ∷ rest) v = answers (here_of x at h f rest) v

abbrev pub returns : Here → Value → State
returns here v = resumes here.subject here.callback here.heap here.rest v

abbrev pub return_by : Here → Option Value → Choices State
return_by here None = Single (Over Stuck)
return_by here (Some v) = Single (returns here v)

-- a pair is answered as zero
abbrev pub return_options : Here → Returned → Choices State
return_options here returned.Nothing = Single (returns here Zero)
return_options here returned.Wide = Single (returns here Zero)
return_options here (returned.Register r) = return_by here (register here.frame r)

-- ---- every act
abbrev pub act_options : Here → Option Act → Choices State
act_options here None = Single (Over Stuck)
act_options here (Some Go) = go_options here
act_options here (Some (Test value way)) = test_options here way (register here.frame value)
act_options here (Some (Copy to from wide)) =
    copy_options here to wide (register here.frame from) (register here.frame (from + 1))
act_options here (Some (TakeResult to)) = take_options here to (register here.frame (result_index here.frame))
act_options here (Some (Write to what throws)) =
    throws_options here throws (written_options here to (is_pair what) (written_values here.subject.app what))
act_options here (Some (Fill arguments kind)) = fill_options here arguments kind
act_options here (Some (ReadSlot to slot throws)) =
    throws_options here throws (Single (writes here to (cell_value (cell here.heap slot.0))))
act_options here (Some (WriteSlot from slot throws)) =
    throws_options here throws (write_options here slot (register here.frame from))
act_options here (Some (Give from throws)) = throws_options here throws (give_options here (register here.frame from))
act_options here (Some (Check throws)) = throws_options here throws (Single (goes_on here here.frame.registers 0))
act_options here (Some (Throw object)) = throw_options here (register here.frame object)
act_options here (Some (Return answer)) = return_options here answer
act_options here (Some (Call by usage arguments given)) = call_options here by usage arguments given

-- ---- the start of a callback
-- the values of an argument of a type, for each of its words
abbrev pub argument_words : AppParts → List ℕ → List (List Value)
argument_words app text = replicate (words_of text) (if is_reference text then free_references app else free_numbers)

abbrev pub parameter_words : AppParts → Option ProtoParts → List (List Value)
parameter_words app None = []
parameter_words app (Some proto) = flat_map (λ (t : TypeNo). argument_words app (type_text app t.0)) proto.params

-- the type of a component's objects
abbrev pub class_type : Option ClassParts → Option ℕ
class_type None = None
class_type (Some class) = Some class.name.0

abbrev pub this_of : AppParts → Option ComponentParts → Value
this_of app None = Object None
this_of app (Some component) = Object (class_type (slice_get app.classes component.class.0))

-- the method of edge e of component c begins: each word is chosen, and then they fill the argument registers
abbrev pub starts_with : SubjectParts → Callback → Heap → ℕ → Option MethodRow → (words : List Value) → State
starts_with x at h m method words = Running at h (entered_frame m (entry_values method words) ∷ [])

abbrev pub method_starts : SubjectParts → Callback → Heap → ℕ → (this : Value) → Option MethodRow → Choices State
method_starts x at h m this None = Single (starts_with x at h m None [])
method_starts x at h m this (Some method) =
    ForEvery (parameter_words x.app (slice_get x.app.protos method.proto.0)) (λ words. starts_with x at h m (Some method) (this ∷ words))

-- edge e of component c: an edge without a method is at its end at once
abbrev pub begins : SubjectParts → List ℕ → Heap → ℕ → ℕ → Edge → Option ℕ → Choices State
begins x states h c e edge None =
    Single (AtEnd (record { states = slice_set states c edge.to; component = c; edge = e }) (with_cleared h (clears x c edge)))
begins x states h c e edge (Some m) =
    method_starts x (record { states = states; component = c; edge = e }) (with_cleared h (clears x c edge)) m
    (this_of x.app (slice_get x.list c)) (slice_get x.app.methods m)

-- the starts of the edges that leave the state of component c; e numbers the first edge, c the first component
abbrev pub edge_starts : SubjectParts → List ℕ → Heap → ℕ → ℕ → List Edge → Choices State
edge_starts x states h c e [] = Empty
edge_starts x states h c e (edge ∷ edges) =
    Then (if edge.from == slice_index states c then begins x states h c e edge (callback_at x.list c edge.callback) else Empty)
    (edge_starts x states h c (suc e) edges)

abbrev pub component_starts : SubjectParts → List ℕ → Heap → ℕ → List ComponentParts → Choices State
component_starts x states h c [] = Empty
component_starts x states h c (component ∷ components) =
    Then (edge_starts x states h c 0 (edges_of component.kind)) (component_starts x states h (suc c) components)

abbrev pub starts : SubjectParts → List ℕ → Heap → Choices State
starts x states h = component_starts x states h 0 x.list

-- ---- runs
-- what may come next: an instruction after which nothing comes is Stuck, and where no callback can start, the machine
-- rests
abbrev pub choices_of : SubjectParts → State → Choices State
choices_of x (Idle states h) = or_single (starts x states h) (Idle states h)
choices_of x (Running at h []) = Single (Over Stuck)
choices_of x (Running at h (f ∷ rest)) = or_single (act_options (here_of x at h f rest) (act_at x.app f.method f.index)) (Over Stuck)
choices_of x (AtEnd at h) = Single (Idle at.states h)
choices_of x (Over why) = Single (Over why)

abbrev pub options_of : SubjectParts → State → List State
options_of x s = listed (choices_of x s)

-- how many they are, and option number k, without the list
abbrev pub count_of : SubjectParts → State → ℕ
count_of x s = counted (choices_of x s)

abbrev pub option_at : SubjectParts → State → ℕ → Option State
option_at x s k = picked (choices_of x s) k

-- the option of a number
abbrev pub step : SubjectParts → ℕ → State → State
step x k s = slice_index_or (options_of x s) (k % length (options_of x s)) s

abbrev pub run_from : SubjectParts → State → List ℕ → State
run_from x s [] = s
run_from x s (k ∷ ks) = run_from x (step x k s) ks

abbrev pub start_of : SubjectParts → State
start_of x = Idle (replicate (length x.list) 0) (record { cells = replicate (slot_count x) None; locks = [] })

-- a whole run, by its choices
abbrev pub run_of : SubjectParts → List ℕ → State
run_of x choices = run_from x (start_of x) choices
