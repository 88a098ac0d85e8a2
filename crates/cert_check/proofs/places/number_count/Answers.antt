use Rattle.cert_check.proofs.FirstPlaces.{begin_low, edge_low, watch_low}
use Rattle.cert_check.proofs.places.number_count.Goals as goal

pub returns-in-V1 : goal.returns-in-V1
returns-in-V1 c = λ b d broken outer. begin_low c.args.rule c.args.task.now _ b d c.in-V1.is broken

pub returns-in-V2 : goal.returns-in-V2
returns-in-V2 c = λ b d broken outer. edge_low c.args.rule c.args.task.now _ b d _ c.in-V2.is c.edge_count.ensures broken

pub returns-in-V5 : goal.returns-in-V5
returns-in-V5 c = λ b d broken outer. rw c.component_count.ensures (watch_low c.args.rule c.args.task.now _ b d c.in-V5.is broken)
