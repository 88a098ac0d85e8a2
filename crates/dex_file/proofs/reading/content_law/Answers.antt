use Rattle.dex_file.proofs.ContentLaw.{content_read, content_reads}
use Rattle.dex_file.proofs.reading.content_law.Goals as goal

pub returns : goal.returns
returns c = λ bs content. (content_read bs content, content_reads bs content)
