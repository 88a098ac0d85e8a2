use Rattle.std.proofs.Common.{◌≡◌, length}
use Rattle.call_targets.specs.Below.{IsWalked}
use Rattle.call_targets.proofs.below.walk_down.Given as goal

abbrev pub invariant-loop-place : goal.invariant-loop-place
invariant-loop-place l = record {
  types : l.walk.types ≡ l.initial.walk.types;
  walked : IsWalked l.app l.fn.kind.0 (length l.app.types) l.place l.walk.kinds;
}
