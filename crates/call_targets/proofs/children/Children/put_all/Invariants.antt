use Rattle.std.proofs.Common.{Contains, take}
use Rattle.call_targets.specs.Below.{Puts}
use Rattle.call_targets.proofs.children.Children.put_all.Given as goal

abbrev pub invariant-loop-i : goal.invariant-loop-i
invariant-loop-i l = Puts (λ t. Contains (take l.i l.kinds) (record { 0 = t })) l.class l.initial.self l.self
