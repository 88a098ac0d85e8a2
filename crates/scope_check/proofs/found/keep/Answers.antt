use Rattle.scope_check.proofs.FoundLaws.{keep_none, keep_some}
use Rattle.scope_check.proofs.found.keep.Goals as goal

pub returns-in-Some : goal.returns-in-Some
returns-in-Some c = rw c.earlier.ensures (keep_some c.args.tests.now c.args.method c.args.pc c.in-Some.rule c.args.kept c.in-Some.ensures)

pub returns-in-None : goal.returns-in-None
returns-in-None c = keep_none c.args.tests.now c.args.method.0 c.args.pc c.args.kept c.in-None.ensures
