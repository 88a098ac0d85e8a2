use Rattle.fact_log.proofs.Citing.{no_place_at}
use Rattle.fact_log.proofs.lines.leads_at.Goals as goal

pub returns-then-not-has_place : goal.returns-then-not-has_place
returns-then-not-has_place c = no_place_at _ _ c.cited.view_is c.told.ensures _ _ _ _ _ _ _ c.has_place.ensures c.if-not-has_place.true
