use Rattle.std.proofs.Common.{sym}
use Rattle.method_graph.proofs.Covers.{stands_in, none_left, none_yet}
use Rattle.method_graph.proofs.tries.find_try.Goals as goal

pub returns-then-at-tries : goal.returns-then-at-tries
returns-then-at-tries c = sym (none_left c.args.tries.now c.args.at c.args.pc c.requires.past c.if-at-tries.true)

pub returns-then-row-pc : goal.returns-then-row-pc
returns-then-row-pc c = sym (none_yet c.args.tries.now c.args.at c.args.pc _ c.requires.forward c.requires.past c.if-row-pc.true)

pub returns-else-row-pc : goal.returns-else-row-pc
returns-else-row-pc c = sym (stands_in c.args.tries.now c.args.at c.args.pc _ c.requires.past c.if-at-tries.false c.if-row-pc.false (c.requires.here _ c.if-at-tries.false))
