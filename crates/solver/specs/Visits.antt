-- What is done for an instruction: `w` is the word of its facts, a row for each entry status.
use Rattle.std.specs.Prelude.{◌≡◌, ℕ, Bool, true, List, Some, Contains, length, slice_index_or}
use Rattle.ns_base.specs.declared.rows.MethodNo.{MethodNo}
use Rattle.app_model.specs.Facts.{Fact, At, Ret, Exc}
use Rattle.app_model.specs.Masks.{in_mask}
use Rattle.app_model.specs.Subject.{SubjectParts, callees_at, is_reached}
use Rattle.app_model.specs.Words.{code_len, successor_at, handler_at, leaves_at}
use Rattle.flow_model.specs.Derived.{HasAll}
use Rattle.flow_model.specs.Subject.{is_open, returns_at}
use Rattle.solution.specs.Facts.{Facts, holds, HasPlaces}
use Rattle.solution.specs.Words.{has}
use Rattle.solver.specs.Turns.{AllMasks, InsideBy, Each, HasPlace, Sure, Keeps}

-- the answers to status s, where the mask `seen` has it
abbrev pub Asked : (ℕ → ℕ) → ℕ → ℕ → ℕ → Type 0
Asked masks seen s t = (in_mask seen s ≡ true) × (in_mask (masks s) t ≡ true)

-- status s, where the mask `seen` has it and the call is open at it
abbrev pub Opens : SubjectParts → (l m i seen : ℕ) → ℕ → ℕ → Type 0
Opens x l m i seen s t = (t ≡ s) × (in_mask seen s ≡ true) × (is_open x l m i s ≡ true)

-- the instruction has a place, and the facts of the word are there
pub record IsHere (x : SubjectParts) (l : ℕ) (t : Facts) (m i w : ℕ) : Type 0 where
  pub place : HasPlace x l t m i
  pub at : (e s : ℕ) → has w e s ≡ true → holds t (At m e i s) ≡ true

-- the same, and the call is open at their statuses
pub record IsOpenAt (x : SubjectParts) (l : ℕ) (t : Facts) (m i w : ℕ) : Type 0 where
  pub place : HasPlace x l t m i
  pub at : (e s : ℕ) → has w e s ≡ true → holds t (At m e i s) ≡ true
  pub is_open : (e s : ℕ) → has w e s ≡ true → is_open x l m i s ≡ true

-- from facts that are there the method may throw at this instruction, with status u
pub record CanThrow (x : SubjectParts) (l : ℕ) (masks : AllMasks) (t : Facts) (m i e u : ℕ) : Type 0 where
  pub needs : List Fact
  pub has : HasAll (holds t) needs
  pub to : (k h : ℕ) → handler_at x.app m i k ≡ Some h → InsideBy x l masks needs (At m e h u)
  pub out : leaves_at x.app m i ≡ true → InsideBy x l masks needs (Exc m e u)

pub record AreThrown (x : SubjectParts) (l : ℕ) (masks : AllMasks) (t : Facts) (m i w : ℕ) : Type 0 where
  pub by : (e u : ℕ) → has w e u ≡ true → CanThrow x l masks t m i e u

-- what is done where the statuses of the word may be thrown
abbrev pub WhereThrown : SubjectParts → (l m i w : ℕ) → (AllMasks → Facts → Type 0) → (old new : Facts) → Bool → Type 0
WhereThrown x l m i w goal old new changed = (masks : AllMasks) → AreThrown x l masks old m i w → Sure (InsideBy x l) goal masks masks old new changed

-- ---- what is done: on to successor number k, and to all of them
abbrev pub SuccessorPassed : SubjectParts → (l m i w : ℕ) → ℕ → AllMasks → Facts → Type 0
SuccessorPassed x l m i w k masks t = (e s u j : ℕ) → has w e s ≡ true → successor_at x.app m i k ≡ Some j → in_mask ((masks x l).passes m i k s) u ≡ true → holds t (At m e j u) ≡ true

abbrev pub Returned : SubjectParts → (m i w : ℕ) → AllMasks → Facts → Type 0
Returned x m i w masks t = (e s : ℕ) → has w e s ≡ true → returns_at x m i ≡ true → holds t (Ret m e s) ≡ true

-- a throw of the word's statuses to handler number k, and out of the method
abbrev pub ThrownTo : SubjectParts → (m i w : ℕ) → ℕ → AllMasks → Facts → Type 0
ThrownTo x m i w k masks t = (e u h : ℕ) → has w e u ≡ true → handler_at x.app m i k ≡ Some h → holds t (At m e h u) ≡ true

abbrev pub ThrownOut : SubjectParts → (m i w : ℕ) → AllMasks → Facts → Type 0
ThrownOut x m i w masks t = (e u : ℕ) → has w e u ≡ true → leaves_at x.app m i ≡ true → holds t (Exc m e u) ≡ true

pub record IsThrown (x : SubjectParts) (t : Facts) (m i e u : ℕ) : Type 0 where
  pub to : (k h : ℕ) → handler_at x.app m i k ≡ Some h → holds t (At m e h u) ≡ true
  pub out : leaves_at x.app m i ≡ true → holds t (Exc m e u) ≡ true

abbrev pub Thrown : SubjectParts → (m i w : ℕ) → AllMasks → Facts → Type 0
Thrown x m i w masks t = (e u : ℕ) → has w e u ≡ true → IsThrown x t m i e u

abbrev pub OwnThrown : SubjectParts → (l m i w : ℕ) → AllMasks → Facts → Type 0
OwnThrown x l m i w masks t = (e s u : ℕ) → has w e s ≡ true → in_mask ((masks x l).throws m i s) u ≡ true → IsThrown x t m i e u

-- a call of n at the word's statuses
abbrev pub Entered : (w n : ℕ) → AllMasks → Facts → Type 0
Entered w n masks t = (e s : ℕ) → has w e s ≡ true → holds t (At n s 0 s) ≡ true

abbrev pub CameBack : SubjectParts → (m i w n : ℕ) → AllMasks → Facts → Type 0
CameBack x m i w n masks t = (e s u j : ℕ) → has w e s ≡ true → holds t (Ret n s u) ≡ true → successor_at x.app m i 0 ≡ Some j → holds t (At m e j u) ≡ true

abbrev pub ThrewBack : SubjectParts → (m i w n : ℕ) → AllMasks → Facts → Type 0
ThrewBack x m i w n masks t = (e s u : ℕ) → has w e s ≡ true → holds t (Exc n s u) ≡ true → IsThrown x t m i e u

pub record IsCalled (x : SubjectParts) (m i w n : ℕ) (masks : AllMasks) (t : Facts) : Type 0 where
  pub entered : Entered w n masks t
  pub back : CameBack x m i w n masks t
  pub threw : ThrewBack x m i w n masks t

abbrev pub CalleeDone : SubjectParts → (m i w : ℕ) → ℕ → AllMasks → Facts → Type 0
CalleeDone x m i w k masks t = (n : MethodNo) → slice_index_or (callees_at x m i) k n ≡ n → IsCalled x m i w n.0 masks t

abbrev pub EachCalled : SubjectParts → (m i w : ℕ) → AllMasks → Facts → Type 0
EachCalled x m i w = Each (CalleeDone x m i w) (length (callees_at x m i))

abbrev pub CallsDone : SubjectParts → (l m i w : ℕ) → AllMasks → Facts → Type 0
CallsDone x l m i w masks t = (e s : ℕ) (n : MethodNo) → has w e s ≡ true → is_open x l m i s ≡ true → Contains (callees_at x m i) n
    → (v : ℕ) × (has v e s ≡ true) × IsCalled x m i v n.0 masks t

-- all is there that follows from one fact of an instruction, but by its calls
pub record IsLed (x : SubjectParts) (l m e i s : ℕ) (masks : AllMasks) (t : Facts) : Type 0 where
  pub passed : (k j u : ℕ) → successor_at x.app m i k ≡ Some j → in_mask ((masks x l).passes m i k s) u ≡ true → holds t (At m e j u) ≡ true
  pub threw : (u : ℕ) → in_mask ((masks x l).throws m i s) u ≡ true → IsThrown x t m i e u
  pub returned : returns_at x m i ≡ true → holds t (Ret m e s) ≡ true

-- from the facts of a word
abbrev pub LedOn : SubjectParts → (l m i w : ℕ) → AllMasks → Facts → Type 0
LedOn x l m i w masks t = (e s : ℕ) → has w e s ≡ true → IsLed x l m e i s masks t

-- from each fact of the first ones
pub record AreLed (x : SubjectParts) (l : ℕ) (masks : AllMasks) (led t : Facts) : Type 0 where
  pub places : HasPlaces x led
  pub done : (m e i s : ℕ) → holds led (At m e i s) ≡ true → IsLed x l m e i s masks t

-- facts came near to what the rules derive, and those of `begun` were led on
pub record Nears (x : SubjectParts) (l : ℕ) (was now : AllMasks) (old new begun : Facts) : Type 0 where
  pub keeps : Keeps (InsideBy x l) was now old new
  pub led : AreLed x l now begun new

-- no rule leads out from an instruction with that word
pub record IsDone (x : SubjectParts) (l m i w : ℕ) (masks : AllMasks) (t : Facts) : Type 0 where
  pub led : LedOn x l m i w masks t
  pub called : CallsDone x l m i w masks t

-- the word is what the facts say
abbrev pub IsVisited : SubjectParts → (l m : ℕ) → ℕ → AllMasks → Facts → Type 0
IsVisited x l m i masks t = (w : ℕ) × ((e s : ℕ) → has w e s ≡ holds t (At m e i s)) × IsDone x l m i w masks t

abbrev pub MethodVisited : SubjectParts → (l : ℕ) → ℕ → AllMasks → Facts → Type 0
MethodVisited x l m masks t = is_reached x m ≡ true → Each (IsVisited x l m) (code_len x.app m) masks t

abbrev pub AllVisited : SubjectParts → (l : ℕ) → AllMasks → Facts → Type 0
AllVisited x l masks t = Each (MethodVisited x l) (length x.app.methods) masks t
