use Rattle.app_rows.proofs.Moved.{moved}
use Rattle.app_rows.proofs.bodies.link_body.Goals as goal

pub new-requires : goal.new-requires
new-requires c = moved c.args.rows.now _ _ _ _ c.registers-registers.ensures c.link_places.ensures c.into_places-places.ensures.sound
