use Rattle.std.proofs.Common.{arith}
use Rattle.fact_log.proofs.Ranges.{no_ret}
use Rattle.fact_log.proofs.work.Work.missing_ret.Goals as goal

pub returns-then-method-method_count : goal.returns-then-method-method_count
returns-then-method-method_count c = no_ret _ c.told.ensures _ (omega (arith, c.if-method-method_count.true, c.method_count.ensures))
