-- What a part of a sweep does to the facts. Rules may depend on masks, which somebody else answers.
use Rattle.std.specs.Prelude.{◌≡◌, ℕ, ◌<◌, ◌≤◌, Bool, true, false, List, [], ◌∷◌, length}
use Rattle.app_model.specs.Facts.{Fact}
use Rattle.app_model.specs.Subject.{SubjectParts, IsSubject, is_reached, slot_count}
use Rattle.app_model.specs.Words.{code_len}
use Rattle.flow_model.specs.Derived.{Set, Derived, HasAll}
use Rattle.flow_model.specs.Rules.{Inside}
use Rattle.flow_model.specs.Subject.{Masks}
use Rattle.solution.specs.Facts.{Facts, holds, facts_room, HasPlaces, SameSize}

-- the masks of every subject and lock field
abbrev pub AllMasks : Type 0
AllMasks = SubjectParts → ℕ → Masks

abbrev pub RulesBy : Type 1
RulesBy = AllMasks → List Fact → Fact → Type 0

abbrev pub InsideBy : SubjectParts → ℕ → RulesBy
InsideBy x l masks = Inside x l (masks x l)

-- no fact was lost
abbrev pub Grown : Facts → Facts → Type 0
Grown old new = (f : Fact) → holds old f ≡ true → holds new f ≡ true

abbrev pub Nothing : AllMasks → Facts → Type 0
Nothing masks t = Unit {0}

-- all facts are derived from the given ones
pub record IsBelow (rules : RulesBy) (masks : AllMasks) (given : Set) (t : Facts) : Type 0 where
  pub by : (f : Fact) → holds t f ≡ true → Derived (rules masks) given (f ∷ [])

-- a part that says whether it changed anything: if not, this is done
pub record Turn (rules : RulesBy) (goal : AllMasks → Facts → Type 0) (was now : AllMasks) (old new : Facts) (changed : Bool) : Type 0 where
  pub masks : now ≡ was
  pub below : (given : Set) → IsBelow rules was given old → IsBelow rules was given new
  pub kept : Grown old new
  pub size : SameSize old new
  pub same : changed ≡ false → new ≡ old
  pub falls : changed ≡ true → facts_room new < facts_room old
  pub done : changed ≡ false → goal was new

-- a part that promises nothing but that no fact is wrong or lost
pub record Keeps (rules : RulesBy) (was now : AllMasks) (old new : Facts) : Type 0 where
  pub masks : now ≡ was
  pub below : (given : Set) → IsBelow rules was given old → IsBelow rules was given new
  pub kept : Grown old new
  pub size : SameSize old new
  pub room : facts_room new ≤ facts_room old

-- a fact follows by one rule
pub record Follows (rules : List Fact → Fact → Type 0) (t : Facts) (f : Fact) : Type 0 where
  pub needs : List Fact
  pub by : rules needs f
  pub has : HasAll (holds t) needs

-- a part that does this for good, whatever comes
pub record Sure (rules : RulesBy) (goal : AllMasks → Facts → Type 0) (was now : AllMasks) (old new : Facts) (changed : Bool) : Type 0 where
  pub turn : Turn rules Nothing was now old new changed
  pub done : (t : Facts) → Grown new t → goal was t

-- what is done for each number below a bound, and for each number
abbrev pub Each : (ℕ → AllMasks → Facts → Type 0) → ℕ → AllMasks → Facts → Type 0
Each part bound masks t = (k : ℕ) → k < bound → part k masks t

abbrev pub Every : (ℕ → AllMasks → Facts → Type 0) → AllMasks → Facts → Type 0
Every part masks t = (k : ℕ) → part k masks t

-- by the rules inside callbacks, where masks may be asked; and where none is
abbrev pub Step : SubjectParts → ℕ → (AllMasks → Facts → Type 0) → (was now : AllMasks) → (old new : Facts) → Bool → Type 0
Step x l goal was now old new changed = Turn (InsideBy x l) goal was now old new changed

abbrev pub Still : SubjectParts → ℕ → (AllMasks → Facts → Type 0) → (old new : Facts) → Bool → Type 0
Still x l goal old new changed = (masks : AllMasks) → Turn (InsideBy x l) goal masks masks old new changed

-- the same of parts whose work lasts
abbrev pub LastingStep : SubjectParts → ℕ → (AllMasks → Facts → Type 0) → (was now : AllMasks) → (old new : Facts) → Bool → Type 0
LastingStep x l goal was now old new changed = Sure (InsideBy x l) goal was now old new changed

abbrev pub Lasting : SubjectParts → ℕ → (AllMasks → Facts → Type 0) → (old new : Facts) → Bool → Type 0
Lasting x l goal old new changed = (masks : AllMasks) → Sure (InsideBy x l) goal masks masks old new changed

-- facts of a subject and a lock field
pub record AreFacts (x : SubjectParts) (l : ℕ) (t : Facts) : Type 0 where
  pub sound : IsSubject x
  pub lock : l < slot_count x
  pub places : HasPlaces x t

-- an instruction of a method that is reached
pub record IsPlace (x : SubjectParts) (l m i : ℕ) : Type 0 where
  pub lock : l < slot_count x
  pub method : m < length x.app.methods
  pub reached : is_reached x m ≡ true
  pub index : i < code_len x.app m

-- its facts have a place
pub record HasPlace (x : SubjectParts) (l : ℕ) (t : Facts) (m i : ℕ) : Type 0 where
  pub facts : AreFacts x l t
  pub place : IsPlace x l m i
