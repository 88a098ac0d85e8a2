use Rattle.cert_facts.proofs.Fits.{has_name}
use Rattle.cert_facts.proofs.shape.has_name.Goals as goal

pub returns : goal.returns
returns c = has_name c.args.subject.now _ _ _ _ _ c.if-name.false c.loop-at-test.false c.loop-at.auto.at-end c.loop-at.invariant c.lock_byte-2.ensures c.is_none.ensures
