use Rattle.std.proofs.Common.{◌≢◌, ℕ, ◌<◌, get_or}
use Rattle.app_model.specs.Parts.{ClassParts}
use Rattle.app_model.proofs.hierarchy.find_class.Given as goal

abbrev pub invariant-loop-c : goal.invariant-loop-c
invariant-loop-c l = (k : ℕ) (d : ClassParts) → k < l.c → (get_or l.classes k d).name.0 ≢ l.kind.0
