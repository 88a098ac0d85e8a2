use Rattle.app_link.proofs.SoundApp.{rows_sound}
use Rattle.app_link.proofs.linking.link.Goals as goal

pub indexed-requires : goal.indexed-requires
indexed-requires c = rows_sound c.in_ok-parts.parts.items _ c.in_ok-parts.ensures.contents c.in_ok-rows.ensures.sizes c.in_ok-rows.ensures.checked
