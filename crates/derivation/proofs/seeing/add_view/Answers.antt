use Rattle.derivation.proofs.Views.{no_view, one_view}
use Rattle.derivation.proofs.seeing.add_view.Goals as goal

pub returns-then-not-is_marked : goal.returns-then-not-is_marked
returns-then-not-is_marked c =
    rw c.in_ok-push.ensures.items (no_view _ _ _ _ c.args.seen.now.places.items c.args.seen.now.views.items c.view_at-v.result c.view_at-v.ensures (λ m. (let n = c.is_marked.ensures.1 m in let off = c.if-not-is_marked.true in cc)))

pub returns : goal.returns
returns c =
    rw (c.in_ok-push-3.ensures.items, c.in_ok-push-2.ensures.items, c.len-place.ensures, c.args.seen.now.views.ok.0, c.step_of-step.ensures, c.deref.ensures.value) (one_view _ _ _ _ c.args.seen.now.places.items c.args.seen.now.views.items c.view_at-v.result c.view_at-v.ensures (c.is_marked.ensures.0 c.if-not-is_marked.false))
