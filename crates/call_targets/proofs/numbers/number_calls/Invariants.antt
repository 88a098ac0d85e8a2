use Rattle.std.proofs.Common.{Option, ℕ, map}
use Rattle.std.specs.declared.alloc.Global.{Global}
use Rattle.std.specs.declared.vec.Vec.{Vec}
use Rattle.call_targets.specs.Numbered.{AddsMethods}
use Rattle.call_targets.proofs.Uses.{empty}
use Rattle.call_targets.proofs.numbers.number_calls.Given as goal

abbrev pub invariant-loop-m : goal.invariant-loop-m
invariant-loop-m l = AddsMethods l.app l.m (empty l.app) l.table (map (λ (v : Vec (Option ℕ) Global). v.items) l.uses.items)
