use Rattle.report_laws.proofs.Alike.{same_reports}
use Rattle.report_laws.proofs.alike_reports.Goals as goal

pub returns : goal.returns
returns c = same_reports
