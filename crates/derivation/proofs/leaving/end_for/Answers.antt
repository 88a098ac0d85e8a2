use Rattle.std.proofs.Common.{arith}
use Rattle.derivation.proofs.Exits.{by_line, by_outside}
use Rattle.derivation.proofs.leaving.end_for.Goals as goal

pub returns-then-bad-entry : goal.returns-then-bad-entry
returns-then-bad-entry c = by_outside c.args.subject.now c.args.bad c.args.lines.now c.args.v c.args.edge c.enter-entry.result c.enter-entry.ensures c.in_default.ensures (omega (arith, c.if-bad-entry.true))

pub returns-in-Some-ret_line : goal.returns-in-Some-ret_line
returns-in-Some-ret_line c = by_line c.args.subject.now c.args.bad c.args.lines.now c.args.v c.args.edge c.enter-entry.result c.enter-entry.ensures c.in-Some.method c.in-Some.ensures c.in-Some-ret_line.line c.in-Some-ret_line.ensures
