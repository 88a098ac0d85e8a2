use Rattle.fact_log.proofs.Citing.{cited_outside, cited_method}
use Rattle.fact_log.proofs.lines.Cited.carries.Goals as goal

pub returns-in-Some : goal.returns-in-Some
returns-in-Some c = cited_method _ _ c.self.view_is _ _ _ _ c.args.body _ _ c.enter-entry.ensures _ c.in-Some.ensures c.shows.ensures

pub returns-in-None : goal.returns-in-None
returns-in-None c = cited_outside _ _ c.self.view_is _ _ _ _ c.args.body _ _ c.enter-entry.ensures c.in-None.ensures c.stays.ensures
