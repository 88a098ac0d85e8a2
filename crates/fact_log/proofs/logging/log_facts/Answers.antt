use Rattle.std.proofs.Common.{◌∙◌}
use Rattle.fact_log.proofs.Closed.{covers_log}
use Rattle.fact_log.proofs.logging.log_facts.Goals as goal

pub returns-in-Ok-clause-covers : goal.returns-in-Ok-clause-covers
returns-in-Ok-clause-covers c = covers_log _ c.told.ensures _ _ _ (c.in-Ok.ensures.keeps.subject ∙ c.in_ok-work.ensures.subject) (c.in-Ok.ensures.keeps.lock ∙ c.in_ok-work.ensures.lock) (c.in-Ok.ensures.keeps.solution ∙ c.in_ok-work.ensures.solution) _ _ c.into_log.ensures.lines c.into_log.ensures.views c.in-Ok.ensures.done c.requires.least
