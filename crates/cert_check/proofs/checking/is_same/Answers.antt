use Rattle.cert_check.proofs.Breaches.{both_past, one_past, both_there}
use Rattle.cert_check.proofs.checking.is_same.Goals as goal

pub returns-then-file-own : goal.returns-then-file-own
returns-then-file-own c = both_past _ _ _ c.if-file-own.true

pub returns-then-file-dex : goal.returns-then-file-dex
returns-then-file-dex c = one_past _ _ _ c.if-file-own.false c.if-file-dex.true

pub returns : goal.returns
returns c = both_there _ _ _ _ c.if-file-own.false c.if-file-dex.false c.is_digest.ensures
