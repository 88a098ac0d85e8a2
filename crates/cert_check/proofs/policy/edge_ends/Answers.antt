use Rattle.std.proofs.Common.{sym}
use Rattle.cert_check.proofs.Unmet.{ends_none, ends_one}
use Rattle.cert_check.proofs.policy.edge_ends.Goals as goal

pub returns-in_default : goal.returns-in_default
returns-in_default c = ends_none _ _ _ _ (sym c.in_default.ensures)

pub returns : goal.returns
returns c = ends_one _ _ _ _ _ _ (sym c.in-Some.ensures) c.if-edge-callback.false c.lead.ensures
