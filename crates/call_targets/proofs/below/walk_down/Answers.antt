use Rattle.std.proofs.Common.{◌+◌, ap, arith, length, subst, sym, ◌∙◌, ◌<◌}
use Rattle.std.specs.List.{All}
use Rattle.ns_base.specs.declared.rows.TypeNo.{TypeNo}
use Rattle.class_graph.specs.Walks.{met_all}
use Rattle.call_targets.specs.Below.{IsWalked}
use Rattle.call_targets.proofs.Downward.{below_types, list_at, read_at, walked_more, walked_tells}
use Rattle.call_targets.proofs.below.walk_down.Goals as goal

pub meet_all-requires : goal.meet_all-requires
meet_all-requires c =
    let app = c.args.app.now in
    subst (λ n. All (λ (t : TypeNo). t.0 < n) c.below.result.now) (sym (c.loop-place.invariant.types ∙ c.in_ok-begin.ensures.types ∙ c.requires.types))
    (subst (All (λ (t : TypeNo). t.0 < length app.types)) (sym c.below.ensures) (below_types app c.told.ensures c.args.kind.0 c.args.children.now _ c.requires.children))

pub loop-place-preserved : goal.loop-place-preserved
loop-place-preserved c =
    let app = c.args.app.now in
    let kinds = c.loop-place.walk.kinds in
    let next = read_at kinds c.loop-place.place (omega (arith, c.if-place-kinds.false, ap length c.kinds.ensures)) in
    let list = list_at c.args.children.now kinds c.kinds-in-loop-place.result.now c.loop-place.place next.0 _ c.below.result.now c.kinds-in-loop-place.ensures next.1 c.below.ensures in
    rw c.in_ok-meet_all.ensures (record {
      types = c.loop-place.invariant.types;
      walked = subst (λ l. IsWalked app c.args.kind.0 (length app.types) (c.loop-place.place + 1) (met_all kinds l)) (sym list) (walked_more app c.told.ensures c.args.kind.0 (length app.types) c.loop-place.place kinds c.args.children.now next.0 next.1 c.requires.children c.loop-place.invariant.walked);
    })

pub returns-then-place-kinds-clause-tells : goal.returns-then-place-kinds-clause-tells
returns-then-place-kinds-clause-tells c =
    walked_tells c.args.app.now c.told.ensures c.args.kind.0 c.loop-place.place c.loop-place.walk.kinds c.loop-place.invariant.walked (omega (arith, c.if-place-kinds.true, ap length c.kinds.ensures))
