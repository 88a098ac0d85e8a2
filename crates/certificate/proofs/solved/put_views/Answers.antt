use Rattle.std.proofs.Common.{◌∙◌, ◌++◌, ◌∷◌, [], ap}
use Rattle.std.specs.List.{filter}
use Rattle.cert_line.specs.declared.rows.ViewRow.{ViewRow}
use Rattle.solution.specs.Facts.{holds}
use Rattle.certificate.specs.Solved.{has_status, view_row}
use Rattle.certificate.proofs.Ranges.{one_more_row}
use Rattle.certificate.proofs.solved.put_views.Goals as goal

pub loop-state-preserved : goal.loop-state-preserved
loop-state-preserved c =
    one_more_row has_status (view_row (holds c.args.solution.now) c.args.component.0) c.loop-state.state c.args.rows.now.items c.loop-state.rows.items _ c.loop-state.invariant
    (c.in_ok-put_view.ensures ∙ ap (λ (v : ViewRow). c.loop-state.rows.items ++ filter has_status (v ∷ [])) c.view_of.ensures)
