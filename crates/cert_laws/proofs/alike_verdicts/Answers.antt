use Rattle.cert_laws.proofs.Alike.{same_accepted, same_verdict}
use Rattle.cert_laws.proofs.alike_verdicts.Goals as goal

pub returns-clause-verdict : goal.returns-clause-verdict
returns-clause-verdict c = same_verdict

pub returns-clause-accepted : goal.returns-clause-accepted
returns-clause-accepted c = same_accepted
