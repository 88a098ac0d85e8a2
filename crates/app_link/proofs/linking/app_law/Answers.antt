use Rattle.app_link.proofs.SoundApp.{app_sound}
use Rattle.app_link.proofs.linking.app_law.Goals as goal

pub returns : goal.returns
returns c = λ files app small are is. app_sound files app small are is
