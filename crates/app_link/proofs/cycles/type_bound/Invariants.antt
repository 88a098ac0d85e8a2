use Rattle.std.proofs.Common.{◌≡◌, ◌≤◌, ◌<◌, ◌^◌, ℕ, Some, slice_get}
use Rattle.app_model.specs.Parts.{ClassParts}
use Rattle.app_model.specs.Ancestors.{IsParent}
use Rattle.app_link.proofs.cycles.type_bound.Given as goal

abbrev pub invariant-loop-c : goal.invariant-loop-c
invariant-loop-c l = (l.bound ≤ 2 ^ 32) × ((k : ℕ) (class : ClassParts) → k < l.c → slice_get l.classes k ≡ Some class → (u : ℕ) → IsParent class u → u < l.bound)
