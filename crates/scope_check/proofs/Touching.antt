-- A method that has a lock instruction that is no initialiser store.
use Rattle.std.proofs.Common.{◌≡◌, ℕ, ◌==◌, Bool, true, false, refl, sym, ◌∙◌, not, eqb-true, eq-eqb}
use Rattle.std.specs.Int.{bit_at}
use Rattle.app_model.specs.Masks.{any_below}
use Rattle.app_model.specs.Parts.{AppParts}
use Rattle.app_model.specs.Words.{code_len}
use Rattle.flow_model.specs.Breaks.{initialises}
use Rattle.class_graph.proofs.Lists.{same_test}
use Rattle.scope_facts.specs.LockCode.{IsLockWord, is_other}

not_not : (b : Bool) → not (not b) ≡ b
not_not true = refl
not_not false = refl

pub any_other : (app : AppParts) (m : ℕ) → not (initialises app m) ≡ any_below (is_other app m) (code_len app m)
unfolding initialises
any_other app m = not_not (any_below (is_other app m) (code_len app m))

-- its bit says so
pub other_touches : (app : AppParts) (m word : ℕ) → IsLockWord app m word → (bit_at word 1 == 1) ≡ not (initialises app m)
other_touches app m word is =
    same_test _ _
    (λ e. any_other app m ∙ is.others.0 (eqb-true (bit_at word 1) 1 e))
    (λ h. eq-eqb (bit_at word 1) 1 (is.others.1 (sym (any_other app m) ∙ h)))
