use Rattle.std.proofs.Common.{sym}
use Rattle.dex_file.proofs.Fronts.{front_is, front_whole}
use Rattle.dex_file.proofs.reading.read_front.Goals as goal

pub returns-in-Ok-clause-header : goal.returns-in-Ok-clause-header
returns-in-Ok-clause-header c = (front_is _ _ (sym c.in-Ok.ensures), front_whole _ _ (sym c.in-Ok.ensures))
