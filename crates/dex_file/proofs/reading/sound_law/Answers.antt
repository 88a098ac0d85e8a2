use Rattle.dex_file.proofs.SoundFile.{content_sound}
use Rattle.dex_file.proofs.reading.sound_law.Goals as goal

pub returns : goal.returns
returns c = λ content is. content_sound content is
