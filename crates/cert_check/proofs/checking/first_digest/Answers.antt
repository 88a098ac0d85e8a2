use Rattle.cert_check.proofs.Breaches.{digests_same}
use Rattle.cert_check.proofs.checking.first_digest.Goals as goal

pub returns : goal.returns
returns c = digests_same _ _ _ c.requires c.loop-file-test.false c.loop-file.invariant
