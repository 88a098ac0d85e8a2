use Rattle.std.proofs.Common.{ap, ◌∙◌, map, take}
use Rattle.build_tables.proofs.Listed.{take-items}
use Rattle.build_tables.proofs.rows.Rows.truncate.Goals as goal

pub returns : goal.returns
returns c = ap (map (λ k. k.items)) c.truncate.ensures.keys ∙ take-items (λ k. k.items) c.args.len c.self.inside.set.keys ∙ ap (take c.args.len) c.self.view_is
