use Rattle.std.proofs.Common.{◌≡◌, ◌++◌, ◌+◌, map, take, drop, set, get_or, sym, ap, subst, arith}
use Rattle.std.proofs.lemmas.List.Edits.{map_over_more}
use Rattle.app_rows.specs.Linked.{linked_place}
use Rattle.app_rows.proofs.bodies.link_places.Goals as goal

pub loop-place-preserved : goal.loop-place-preserved
loop-place-preserved c =
    let at = c.loop-place in
    let f = linked_place c.args.rows.now in
    let all = c.deref_mut-place-items.result.now in
    subst (λ p. set at.place-items at.place-index p ≡ map f (take (at.place-index + 1) all) ++ drop (at.place-index + 1) all) (sym c.link_place.ensures)
    (map_over_more f all at.place-items at.place-index _ (omega (arith, c.loop-place-test.true)) at.invariant (ap (get_or at.place-items at.place-index) c.place-item.is))
