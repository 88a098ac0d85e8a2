use Rattle.fact_log.proofs.Ranges.{no_at}
use Rattle.fact_log.proofs.work.Work.missing_at.Goals as goal

pub returns-then-not-has_facts : goal.returns-then-not-has_facts
returns-then-not-has_facts c = no_at _ _ c.self.view_is c.told.ensures _ _ _ c.has_facts.ensures c.if-not-has_facts.true
