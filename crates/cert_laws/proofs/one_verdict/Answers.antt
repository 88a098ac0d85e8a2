use Rattle.cert_laws.proofs.One.{one_verdict}
use Rattle.cert_laws.proofs.one_verdict.Goals as goal

pub returns : goal.returns
returns c = one_verdict
