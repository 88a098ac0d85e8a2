use Rattle.std.proofs.Common.{arith, sym}
use Rattle.method_graph.proofs.Ranges.{range_within, range_across}
use Rattle.method_graph.proofs.registers.past_range.Goals as goal

pub returns-then-len-count : goal.returns-then-len-count
returns-then-len-count c = sym (range_across c.args.count c.args.first c.args.len (omega arith) (omega arith))

pub returns-else-len-count : goal.returns-else-len-count
returns-else-len-count c = sym (range_within c.args.count c.args.first c.args.len (omega arith))
