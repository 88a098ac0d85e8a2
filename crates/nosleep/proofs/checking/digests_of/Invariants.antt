use Rattle.std.proofs.Common.{◌≡◌, ℕ, map, take}
use Rattle.std.specs.declared.alloc.Global.{Global}
use Rattle.std.specs.declared.vec.Vec.{Vec}
use Rattle.sha1.specs.Sha1.{sha1}
use Rattle.nosleep.proofs.checking.digests_of.Given as goal

abbrev pub invariant-loop-i : goal.invariant-loop-i
invariant-loop-i l = l.digests.items ≡ map sha1 (map (λ (bytes : Vec ℕ Global). bytes.items) (take l.i l.files))
