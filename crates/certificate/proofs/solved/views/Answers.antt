use Rattle.solution.specs.Facts.{holds}
use Rattle.certificate.specs.Solved.{component_views}
use Rattle.certificate.proofs.Ranges.{one_more_group}
use Rattle.certificate.proofs.solved.views.Goals as goal

pub loop-component-preserved : goal.loop-component-preserved
loop-component-preserved c =
    one_more_group (component_views (holds c.args.solution.now)) c.loop-component.component c.loop-component.rows.items _ c.loop-component.invariant c.in_ok-put_views.ensures
