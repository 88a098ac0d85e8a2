use Rattle.std.proofs.Common.{sym}
use Rattle.cert_facts.proofs.Carries.{moves_none}
use Rattle.cert_facts.proofs.carrying.edge_moves.Goals as goal

pub returns-in_default : goal.returns-in_default
returns-in_default c = moves_none _ _ _ _ (sym c.in_default.ensures)
