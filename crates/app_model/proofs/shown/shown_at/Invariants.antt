use Rattle.std.proofs.Common.{◌≡◌, ◌++◌, List, ℕ, slice_get, drop}
use Rattle.app_model.specs.Shown.{shown}
use Rattle.app_model.proofs.shown.shown_at.Given as goal

abbrev pub invariant-loop-byte : goal.invariant-loop-byte
invariant-loop-byte l = (more : List ℕ) → slice_get (shown l.name ++ more) l.at ≡ slice_get (shown (drop l.byte-index l.name) ++ more) l.left
