use Rattle.std.proofs.Common.{arith}
use Rattle.report_path.proofs.Carrying.{never_clears}
use Rattle.report_path.proofs.edges.Edges.clears.Goals as goal

pub returns-then-self-lock_count : goal.returns-then-self-lock_count
returns-then-self-lock_count c = never_clears _ _ _ c.args.edge c.told.ensures (omega (arith, c.if-self-lock_count.true, c.lock_count.ensures.count))
