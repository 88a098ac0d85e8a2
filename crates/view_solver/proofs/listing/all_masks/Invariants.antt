use Rattle.std.proofs.Common.{map, ℕ}
use Rattle.std.specs.declared.alloc.Global.{Global}
use Rattle.std.specs.declared.vec.Vec.{Vec}
use Rattle.view_solver.specs.Reported.{AreAllMasks}
use Rattle.view_solver.proofs.listing.all_masks.Given as goal

abbrev pub invariant-loop-lock : goal.invariant-loop-lock
invariant-loop-lock l = AreAllMasks l.subject l.lock (map (λ (masks : Vec ℕ Global). masks.items) l.all.items)
