use Rattle.std.proofs.Common.{◌∙◌, ap, replicate}
use Rattle.tag_flow.proofs.Begin.{rows_none, rows_push}
use Rattle.tag_flow.proofs.building.make_rows.Goals as goal

pub loop-method-init : goal.loop-method-init
loop-method-init c =
    rw c.new-rows.ensures.items (rows_none _)

pub loop-method-preserved : goal.loop-method-preserved
loop-method-preserved c =
    rw c.in_ok-push.ensures.items (rows_push _ _ _ _ c.loop-method.invariant (c.in_ok-cells.ensures ∙ ap (λ n. replicate n 0) c.cells_of.ensures.cells))
