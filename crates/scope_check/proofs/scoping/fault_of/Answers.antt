use Rattle.scope_check.proofs.CauseLaws.{cause_of}
use Rattle.scope_check.proofs.scoping.fault_of.Goals as goal

pub returns-in-Ok : goal.returns-in-Ok
returns-in-Ok c = cause_of c.args.survey.now.case c.args.found c.in-Ok.fault c.requires c.in-Ok.ensures
