use Rattle.tag_flow.proofs.Reached.{known_below}
use Rattle.tag_flow.proofs.known.Known.spot.Goals as goal

pub width-width-requires : goal.width-width-requires
width-width-requires c =
    known_below _ c.told.ensures _ c.requires.reached
