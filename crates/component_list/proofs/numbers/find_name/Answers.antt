use Rattle.std.proofs.Common.{arith, bytes_eq, sym}
use Rattle.component_list.proofs.Places.{found_next, name_here, name_none}
use Rattle.component_list.proofs.numbers.find_name.Goals as goal

pub returns-then-eq : goal.returns-then-eq
returns-then-eq c = name_here c.args.app.now c.args.name.now c.loop-n.n c.name.result.now c.loop-n.invariant c.name.ensures (sym c.if-eq.ensures)

pub loop-n-preserved : goal.loop-n-preserved
loop-n-preserved c = found_next (bytes_eq c.args.name.now) c.args.app.now.names c.loop-n.n c.name.result.now c.loop-n.invariant c.name.ensures (sym c.if-eq.ensures)

pub returns : goal.returns
returns c = name_none c.args.app.now c.args.name.now c.loop-n.n c.loop-n.invariant (omega arith)
