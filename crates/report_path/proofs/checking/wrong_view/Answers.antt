use Rattle.std.proofs.Common.{below_more}
use Rattle.report_path.proofs.Pieces.{right_view, view_of, all_views}
use Rattle.report_path.proofs.checking.wrong_view.Goals as goal

pub returns-then-not-is_view : goal.returns-then-not-is_view
returns-then-not-is_view c =
    (λ right. absurd (let t = c.is_view.ensures.1 (view_of _ _ _ _ _ c.loop-k-test.true c.split_at.ensures.front right) in let f = c.if-not-is_view.true in cc), c.loop-k.invariant)

pub loop-k-preserved : goal.loop-k-preserved
loop-k-preserved c = below_more _ _ c.loop-k.invariant (right_view _ _ _ _ _ c.loop-k-test.true c.split_at.ensures.front (c.is_view.ensures.0 c.if-not-is_view.false))

pub returns : goal.returns
returns c = all_views _ _ _ c.loop-k-test.false c.loop-k.invariant
