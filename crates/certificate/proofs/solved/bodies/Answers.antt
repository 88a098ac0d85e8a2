use Rattle.solution.specs.Facts.{holds}
use Rattle.certificate.specs.Solved.{method_bodies}
use Rattle.certificate.proofs.Ranges.{one_more_group}
use Rattle.certificate.proofs.solved.bodies.Goals as goal

pub loop-method-preserved : goal.loop-method-preserved
loop-method-preserved c =
    one_more_group (method_bodies c.args.subject.now (holds c.args.solution.now)) c.loop-method.method c.loop-method.rows.items _ c.loop-method.invariant c.in_ok-put_method.ensures
