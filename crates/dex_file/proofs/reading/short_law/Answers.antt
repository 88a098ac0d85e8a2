use Rattle.dex_file.proofs.Small.{content_short}
use Rattle.dex_file.proofs.reading.short_law.Goals as goal

pub returns : goal.returns
returns c = λ bs content is short. content_short bs content is short
