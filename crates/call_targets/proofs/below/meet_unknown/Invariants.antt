use Rattle.std.proofs.Common.{◌≡◌}
use Rattle.call_targets.specs.Below.{IsWalked}
use Rattle.call_targets.proofs.below.meet_unknown.Given as goal

abbrev pub invariant-loop-t : goal.invariant-loop-t
invariant-loop-t l = record {
  types : l.walk.types ≡ l.initial.walk.types;
  walked : IsWalked l.app l.fn.kind.0 l.t 0 l.walk.kinds;
}
