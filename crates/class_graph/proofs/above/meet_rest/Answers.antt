use Rattle.std.proofs.Common.{◌-◌, length}
use Rattle.class_graph.proofs.Lines.{walk_done}
use Rattle.class_graph.proofs.above.meet_rest.Goals as goal

pub returns-then-place-kinds : goal.returns-then-place-kinds
returns-then-place-kinds c =
    walk_done c.args.app.now.classes (length c.args.app.now.types - c.loop-place.place) c.loop-place.place c.args.walk.now c.loop-place.walk _ c.loop-place.invariant.kept (rw c.kinds.ensures at c.if-place-kinds.true) c.loop-place.invariant.rest
