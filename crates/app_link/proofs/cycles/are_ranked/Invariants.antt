use Rattle.std.proofs.Common.{◌≡◌, ◌<◌, ℕ, Some, slice_get}
use Rattle.app_model.specs.Parts.{ClassParts}
use Rattle.app_link.specs.Cycles.{AreParentsBelow, rank_limit}
use Rattle.app_link.proofs.cycles.are_ranked.Given as goal

abbrev pub invariant-loop-c : goal.invariant-loop-c
invariant-loop-c l = (k : ℕ) (class : ClassParts) → k < l.c → slice_get l.classes k ≡ Some class → AreParentsBelow l.ranks class (rank_limit l.ranks class.name.0)
