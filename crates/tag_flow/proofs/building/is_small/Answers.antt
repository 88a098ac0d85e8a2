use Rattle.std.proofs.Common.{◌+◌, arith, length}
use Rattle.std.proofs.lemmas.Bool.{false≢true}
use Rattle.tag_flow.specs.Known.{is_reached}
use Rattle.tag_flow.proofs.Begin.{total_more, total_rises}
use Rattle.tag_flow.proofs.building.is_small.Goals as goal

pub returns-then-total-limit : goal.returns-then-total-limit
returns-then-total-limit c =
    let k = c.args.known.now in
    let m = c.loop-method.method in
    let more = total_more k.app (is_reached k) m in
    let rises = total_rises k.app (is_reached k) (m + 1) (length k.app.methods) (omega (arith, c.loop-method-test.true, c.method_count-method-end.ensures)) in
    (λ t. absurd (false≢true t), λ few. absurd (omega (arith, few, rises, more, c.if-total-limit.true, c.limit.ensures, c.cells_of-total.ensures.cells, c.loop-method.invariant.total)))
