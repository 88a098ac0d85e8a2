use Rattle.path_reader.proofs.Written.{read_back, text_is}
use Rattle.path_reader.proofs.reading.written_is_read.Goals as goal

pub returns-clause-text : goal.returns-clause-text
returns-clause-text c = λ r. text_is r

pub returns-clause-read : goal.returns-clause-read
returns-clause-read c = λ ws. read_back ws
