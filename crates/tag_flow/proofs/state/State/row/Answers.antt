use Rattle.std.proofs.Common.{◌≡◌, ◌∙◌, ap, sym}
use Rattle.tag_flow.specs.State.{StateParts}
use Rattle.tag_flow.proofs.Spots.{row_within, table_width}
use Rattle.tag_flow.proofs.state.State.row.Goals as goal

pub row-requires-clause-within : goal.row-requires-clause-within
row-requires-clause-within c =
    let at : c.self.inside.rows ≡ c.args.self.now.table = ap (λ (s : StateParts). s.table) c.self.view_is in
    rw at (row_within _ _ c.args.spot c.requires.state c.requires.spot)

pub returns : goal.returns
returns c =
    let at : c.self.inside.rows ≡ c.args.self.now.table = ap (λ (s : StateParts). s.table) c.self.view_is in
    (rw at at c.row.ensures) c.args.spot.index (c.requires.spot.width ∙ sym (table_width _ _ c.args.spot.method.0 c.requires.state)) c.requires.spot.start
