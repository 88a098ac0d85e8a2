use Rattle.std.proofs.Common.{arith}
use Rattle.fact_log.proofs.Ranges.{no_views}
use Rattle.fact_log.proofs.work.Work.missing_views.Goals as goal

pub returns-then-component-component_count : goal.returns-then-component-component_count
returns-then-component-component_count c = no_views _ c.told.ensures _ (omega (arith, c.if-component-component_count.true, c.component_count.ensures))
