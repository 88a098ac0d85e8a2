-- Violations of the exit policy: an exit of a component is reached while a lock that it answers for is held.
use Rattle.std.specs.Prelude.{ℕ, ◌≡◌, ◌<◌, ◌⊎◌, Bool, true, false, List, ◌∷◌, Option, Some, AllPairs, Contains, ◌↔◌}
use Rattle.app_model.specs.declared.component.Edge.{Edge}
use Rattle.app_model.specs.declared.tag.Tag.{Tag}
use Rattle.app_model.specs.declared.lock_use.LockUse.TheVariants.{Acquire}
use Rattle.app_model.specs.Components.{edge_at, exits_at}
use Rattle.act_model.specs.declared.act.Act.{Act}
use Rattle.flow_model.specs.declared.policy.Violation.{Violation}
use Rattle.act_model.specs.declared.act.Act.TheVariants.{Call}
use Rattle.dalvik.specs.Calls.{receiver_of}
use Rattle.act_model.specs.Changes.{tag_in}
use Rattle.app_model.specs.Facts.{Fact, View}
use Rattle.app_model.specs.Masks.{in_mask, is_held}
use Rattle.flow_model.specs.Derived.{Set, HasAll, Derived}
use Rattle.flow_model.specs.Passes.{is_field}
use Rattle.flow_model.specs.Rules.{Rules, Carries}
use Rattle.app_model.specs.Subject.{SubjectParts, answers_at, slot_count}

-- an acquire of what lock field l holds
abbrev pub acquires : ℕ → Option Act → List Tag → Bool
acquires l (Some (Call by Acquire arguments gives)) row = is_field l (tag_in row (receiver_of arguments))
acquires l act row = false

-- callback k of component c, an exit, can end at the held status s of lock field l, for which the component answers,
-- where facts hold by P
pub record IsViolation (x : SubjectParts) (carries : (c : ℕ) → Edge → (s t : ℕ) → List Fact → Type 0) (l : ℕ) (P : List Fact → Type 0) (c k s : ℕ) : Type 0 where
  pub state : ℕ
  pub before : ℕ
  pub number : ℕ
  pub edge : Edge
  pub needs : List Fact
  pub slot : l < slot_count x
  pub there : edge_at x.list c number ≡ Some edge
  pub from : edge.from ≡ state
  pub callback : edge.callback ≡ k
  pub carried : carries c edge before s needs
  pub holds : P (View c state before ∷ needs)
  pub exit : in_mask (exits_at x.list c) k ≡ true
  pub held : is_held s ≡ true
  pub answers : answers_at x c l ≡ true

-- no fact is given
abbrev pub none_given : Set
none_given f = false

-- the least solution of the rules has the violation
abbrev pub IsDerivableViolation : SubjectParts → (l c k s : ℕ) → Type 0
IsDerivableViolation x l c k s = IsViolation x (Carries x l) l (Derived (Rules x l) none_given) c k s

abbrev pub MeetsPolicy : SubjectParts → ℕ → Set → Type 0
MeetsPolicy x l set = (c k s : ℕ) → ¬ IsViolation x (Carries x l) l (HasAll set) c k s

-- the order of reports
abbrev pub ComesBefore : Violation → Violation → Type 0
ComesBefore v w =
    (v.component < w.component)
    ⊎ ((v.component ≡ w.component) × ((v.callback < w.callback)
    ⊎ ((v.callback ≡ w.callback) × ((v.lock < w.lock)
    ⊎ ((v.lock ≡ w.lock) × (v.status < w.status))))))

-- these are the violations that the rules derive, each once and in order
pub record AreViolations (x : SubjectParts) (violations : List Violation) : Type 0 where
  pub ordered : AllPairs ComesBefore violations
  pub exact : (v : Violation) → Contains violations v ↔ IsDerivableViolation x v.lock v.component v.callback v.status
