use Rattle.std.proofs.Common.{rules}
use Rattle.method_graph.proofs.Table.{sound_note}
use Rattle.method_graph.proofs.sweep.Sweep.note.Goals as goal

pub invariant_of-self-2 : goal.invariant_of-self-2
invariant_of-self-2 c =
    rw (c.in_ok-push.ensures.items, c.what_stands.ensures, c.instructions_of.ensures.count)
    (sound_note c.self.inside.found.items c.self.inside.rows.items c.self.inside.instructions c.self.inside.reached c.args.row c.args.reached c.self.invariant (search rules) (search rules) (search rules))
