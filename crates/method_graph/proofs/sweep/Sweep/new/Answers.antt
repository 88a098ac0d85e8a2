use Rattle.method_graph.proofs.Table.{sound_filled}
use Rattle.method_graph.proofs.sweep.Sweep.new.Goals as goal

pub invariant_of-result : goal.invariant_of-result
invariant_of-result c =
    rw c.in_ok-resize.ensures.items
    (sound_filled c.args.units _ _ _ c.new-found.ensures.items c.new-found.ensures.len c.new.ensures.items)
