use Rattle.std.proofs.Common.{ap, sym}
use Rattle.dex_code.specs.Content.{CodeContent}
use Rattle.method_graph.proofs.Rising.{sweep_pairs}
use Rattle.method_graph.proofs.Bodies.{are_body}
use Rattle.method_graph.proofs.graph.make_body.Goals as goal

pub make_places-requires-clause-rising : goal.make_places-requires-clause-rising
make_places-requires-clause-rising c = rw c.requires.sweep.rows (sweep_pairs c.args.code.now.units)

pub new-requires : goal.new-requires
new-requires c =
    rw (ap (λ (v : CodeContent). v.registers) c.code.view_is)
    (are_body c.args.bytes.now c.args.code.now c.args.sweep.now.rows c.in-Ok.places.items c.requires.sweep.rows c.requires.size c.requires.handlers
    (sym (rw (c.as_slice.ensures.value, ap (λ (v : CodeContent). v.handlers) c.code.view_is) at c.in-None.ensures)) c.in-Ok.ensures.places)
