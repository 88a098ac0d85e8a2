use Rattle.read_back.proofs.Parts.{written_reports}
use Rattle.read_back.proofs.reports_are_read_back.Goals as goal

pub returns : goal.returns
returns c = written_reports
