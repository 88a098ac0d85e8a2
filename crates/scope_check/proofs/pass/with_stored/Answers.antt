use Rattle.scope_facts.proofs.BitLaws.{with_bit}
use Rattle.scope_check.proofs.pass.with_stored.Goals as goal

pub returns-in-Some : goal.returns-in-Some
returns-in-Some c = rw c.in-Some.is (with_bit c.args.stored c.bit_of.result c.in-Some.lock.0 c.bit_of.ensures)
