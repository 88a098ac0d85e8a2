use Rattle.std.proofs.Common.{Contains}
use Rattle.app_link.specs.Cycles.{Climbs}
use Rattle.app_link.proofs.cycles.climb_list.Given as goal

abbrev pub invariant-loop-i : goal.invariant-loop-i
invariant-loop-i l = Climbs l.initial.marks.items l.marks.items (λ u. Contains l.list (record { 0 = u }))
