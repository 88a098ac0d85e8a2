use Rattle.certificate.proofs.Laws.{one_cert}
use Rattle.certificate.proofs.reading.one_certificate.Goals as goal

pub returns : goal.returns
returns c = λ a b is_a is_b same. one_cert a b is_a is_b same
