use Rattle.std.proofs.Common.{◌≡◌, ◌++◌, map, take, drop}
use Rattle.app_rows.specs.Linked.{linked_place}
use Rattle.app_rows.proofs.bodies.link_places.Given as goal

abbrev pub invariant-loop-place : goal.invariant-loop-place
invariant-loop-place l = l.place-items ≡ map (linked_place l.rows) (take l.place-index l.initial.place-items) ++ drop l.place-index l.initial.place-items
