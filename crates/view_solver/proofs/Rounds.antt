-- Rounds of callbacks and moves.
use Rattle.std.proofs.Common.{◌≡◌, ℕ, false, List, sym, subst}
use Rattle.app_model.specs.Facts.{Fact}
use Rattle.app_model.specs.Subject.{SubjectParts}
use Rattle.flow_model.specs.Derived.{IsClosed}
use Rattle.flow_model.specs.Policy.{none_given}
use Rattle.solution.specs.Facts.{Facts, holds, HasPlaces}
use Rattle.solver.specs.Turns.{AllMasks, AreFacts, IsBelow}
use Rattle.view_solver.specs.Views.{WholeBy}

pub places_facts : (x : SubjectParts) (l : ℕ) (old new : Facts) → AreFacts x l old → HasPlaces x new → AreFacts x l new
places_facts x l old new facts places = record { sound = facts.sound; lock = facts.lock; places = places }

pub still_closed : (rules : List Fact → Fact → Type 0) (old new : Facts) → new ≡ old → IsClosed rules (holds old) → IsClosed rules (holds new)
still_closed rules old new same closed = subst (λ t. IsClosed rules (holds t)) (sym same) closed

-- nothing is derived of no facts but by rules
pub empty_below : (x : SubjectParts) (l : ℕ) (masks : AllMasks) (t : Facts) → ((f : Fact) → holds t f ≡ false) → IsBelow (WholeBy x l) masks none_given t
empty_below x l masks t empty = record { by = λ f h. absurd (let e = empty f in cc) }
