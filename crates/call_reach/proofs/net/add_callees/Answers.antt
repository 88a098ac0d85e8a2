use Rattle.std.proofs.Common.{◌≡◌, List, Some, get_or, slice_get, length, subst, arith, ap}
use Rattle.std.proofs.lemmas.Option.{slice_get-get_or}
use Rattle.ns_base.specs.declared.rows.MethodNo.{MethodNo}
use Rattle.call_reach.specs.Net.{HasAt}
use Rattle.call_reach.proofs.Adding.{adds_more, has_adds, has_whole}
use Rattle.call_reach.proofs.net.add_callees.Goals as goal

pub loop-place-preserved : goal.loop-place-preserved
loop-place-preserved c =
    let n : MethodNo = get_or c.set_callees-callees.result.now c.loop-place.place (record { 0 = 0 }) in
    adds_more (HasAt c.args.graph.now c.args.way c.args.methods c.args.set) c.loop-place.place c.args.links.now c.loop-place.links c.add.new.links c.loop-place.invariant
    (has_adds c.args.graph.now c.args.way c.args.methods c.args.set c.loop-place.place n c.loop-place.links c.add.new.links
    (subst (λ (callees : List MethodNo). slice_get callees c.loop-place.place ≡ Some n) c.set_callees-callees.ensures (slice_get-get_or c.set_callees-callees.result.now c.loop-place.place (record { 0 = 0 }) c.loop-place-test.true))
    c.in_ok-add.ensures)

pub returns : goal.returns
returns c =
    has_whole c.args.graph.now c.args.way c.args.methods c.args.set c.loop-place.place c.args.links.now c.loop-place.links (omega (arith, c.loop-place-test.false, ap length c.set_callees-callees.ensures)) c.loop-place.invariant
