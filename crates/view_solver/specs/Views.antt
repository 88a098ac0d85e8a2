-- The flow rules as one, and what a sweep over the components does.
use Rattle.std.specs.Prelude.{ℕ, ◌≡◌, ◌≢◌, ◌<◌, Bool, true, List, Some, length}
use Rattle.app_model.specs.Components.{edge_at, callback_at}
use Rattle.app_model.specs.Facts.{Fact, View, At}
use Rattle.app_model.specs.Subject.{SubjectParts}
use Rattle.app_model.specs.declared.component.Edge.{Edge}
use Rattle.flow_model.specs.Derived.{Either, HasAll}
use Rattle.flow_model.specs.Rules.{Inner, Between, Carries, entered, no_lock}
use Rattle.flow_model.specs.Subject.{Masks}
use Rattle.solution.specs.Facts.{Facts, holds}
use Rattle.solution.specs.Words.{has}
use Rattle.solver.specs.Turns.{AllMasks, RulesBy, Turn, Each, Every, AreFacts}

-- the rules inside callbacks, by these masks, and those between them
abbrev pub Whole : SubjectParts → ℕ → Masks → List Fact → Fact → Type 0
Whole x l masks = Either (Inner x l masks) (Between x (Carries x l))

abbrev pub WholeBy : SubjectParts → ℕ → RulesBy
WholeBy x l masks = Whole x l (masks x l)

abbrev pub Moved : SubjectParts → ℕ → (AllMasks → Facts → Type 0) → (old new : Facts) → Bool → Type 0
Moved x l goal old new changed = (masks : AllMasks) → Turn (WholeBy x l) goal masks masks old new changed

-- t is the status at which an edge begins its callback where it was s before
abbrev pub EnteredBy : SubjectParts → (l c : ℕ) → Edge → ℕ → ℕ → Type 0
EnteredBy x l c edge s t = t ≡ entered x l c edge s

-- an edge carries s to u, by facts that are there
abbrev pub Carried : SubjectParts → (l : ℕ) → Facts → (c : ℕ) → Edge → ℕ → ℕ → Type 0
Carried x l t c edge s u = (needs : List Fact) × Carries x l c edge s u needs × HasAll (holds t) needs

-- edge number e of component d moves from s to u
abbrev pub MovesBy : SubjectParts → (l : ℕ) → Facts → (d e : ℕ) → ℕ → ℕ → Type 0
MovesBy x l t d e s u = (edge : Edge) × (edge_at x.list d e ≡ Some edge) × (holds t (View d edge.from s) ≡ true) × Carried x l t d edge s u

abbrev pub MovesBelow : SubjectParts → (l : ℕ) → Facts → (d n : ℕ) → ℕ → ℕ → Type 0
MovesBelow x l t d n s u = (e : ℕ) × (e < n) × MovesBy x l t d e s u

abbrev pub Moves : SubjectParts → (l : ℕ) → Facts → (d : ℕ) → ℕ → ℕ → Type 0
Moves x l t d s u = (e : ℕ) × MovesBy x l t d e s u

-- an edge of a component whose facts have a place
pub record HasEdge (x : SubjectParts) (l : ℕ) (t : Facts) (c : ℕ) (edge : Edge) : Type 0 where
  pub facts : AreFacts x l t
  pub component : c < length x.list
  pub number : ℕ
  pub there : edge_at x.list c number ≡ Some edge
  pub from : edge.from < 8
  pub to : edge.to < 8

-- ---- what is done
abbrev pub Begun : ℕ → AllMasks → Facts → Type 0
Begun c masks t = holds t (View c 0 no_lock) ≡ true

abbrev pub Started : SubjectParts → (l c : ℕ) → Edge → AllMasks → Facts → Type 0
Started x l c edge masks t = (s m : ℕ) → holds t (View c edge.from s) ≡ true → callback_at x.list c edge.callback ≡ Some m
    → holds t (At m (entered x l c edge s) 0 (entered x l c edge s)) ≡ true

abbrev pub MovedOn : SubjectParts → (l c : ℕ) → Edge → AllMasks → Facts → Type 0
MovedOn x l c edge masks t = (s u : ℕ) → holds t (View c edge.from s) ≡ true → Carried x l t c edge s u → holds t (View c edge.to u) ≡ true

pub record IsEdgeDone (x : SubjectParts) (l c : ℕ) (edge : Edge) (masks : AllMasks) (t : Facts) : Type 0 where
  pub started : Started x l c edge masks t
  pub moved : MovedOn x l c edge masks t

abbrev pub EdgeDone : SubjectParts → (l c : ℕ) → ℕ → AllMasks → Facts → Type 0
EdgeDone x l c e masks t = (edge : Edge) → edge_at x.list c e ≡ Some edge → IsEdgeDone x l c edge masks t

-- component c saw the moves of d, which are the rows of the word
abbrev pub Watched : (w d : ℕ) → ℕ → AllMasks → Facts → Type 0
Watched w d c masks t = d ≢ c → (q s u : ℕ) → holds t (View c q s) ≡ true → has w s u ≡ true → holds t (View c q u) ≡ true

abbrev pub Told : SubjectParts → (l d : ℕ) → AllMasks → Facts → Type 0
Told x l d masks t = (c q s u : ℕ) → c < length x.list → d ≢ c → holds t (View c q s) ≡ true → Moves x l t d s u → holds t (View c q u) ≡ true

pub record ComponentDone (x : SubjectParts) (l c : ℕ) (masks : AllMasks) (t : Facts) : Type 0 where
  pub begun : Begun c masks t
  pub edges : Every (EdgeDone x l c) masks t
  pub told : Told x l c masks t

abbrev pub AllDone : SubjectParts → (l : ℕ) → AllMasks → Facts → Type 0
AllDone x l masks t = Each (ComponentDone x l) (length x.list) masks t
