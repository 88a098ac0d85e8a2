use Rattle.tag_flow.proofs.Loops.{leads_below}
use Rattle.tag_flow.proofs.passing.pass_to.Goals as goal

pub beside-to-requires-clause-index : goal.beside-to-requires-clause-index
beside-to-requires-clause-index c =
    leads_below _ _ _ _ _ c.told.ensures.app c.requires.source.spot.index c.requires.leads
