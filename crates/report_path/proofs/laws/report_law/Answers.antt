use Rattle.report_path.proofs.Law.{derivable}
use Rattle.report_path.proofs.laws.report_law.Goals as goal

pub returns : goal.returns
returns c = derivable
