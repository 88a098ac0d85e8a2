use Rattle.cert_check.proofs.Edges.{edge_starts}
use Rattle.cert_facts.proofs.Carries.{callback_some}
use Rattle.cert_check.proofs.between.edge_out.Goals as goal

pub returns-in-V3-Some : goal.returns-in-V3-Some
returns-in-V3-Some c = edge_starts _ c.args.task.now _ _ _ _ _ c.in-V3-Some.is-0 (callback_some _ _ _ _ _ c.subject.ensures (rw c.in-V3-Some.is-1 at c.callback-method.ensures.callback)) c.starts_out.ensures
