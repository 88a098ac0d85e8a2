use Rattle.cert_check.specs.EdgeTests.{SeenEdgeOut}
use Rattle.cert_check.proofs.Searches.{NoneBelow}
use Rattle.cert_check.proofs.between.edges_out.Given as goal

abbrev pub invariant-loop-status : goal.invariant-loop-status
invariant-loop-status l = NoneBelow (SeenEdgeOut l.rule l.task l.component.0 l.state l.edge) l.status
