use Rattle.std.proofs.Common.{below_more}
use Rattle.report_path.proofs.Pieces.{right_body, body_of, all_bodies}
use Rattle.report_path.proofs.checking.wrong_body.Goals as goal

pub returns-then-not-is_body : goal.returns-then-not-is_body
returns-then-not-is_body c =
    (λ right. absurd (let t = c.is_body.ensures.1 (body_of _ _ _ _ _ _ c.loop-k-test.true c.index-bodies-k.is c.split_at.ensures.front right) in let f = c.if-not-is_body.true in cc), c.loop-k.invariant)

pub loop-k-preserved : goal.loop-k-preserved
loop-k-preserved c = below_more _ _ c.loop-k.invariant (right_body _ _ _ _ _ _ c.loop-k-test.true c.index-bodies-k.is c.split_at.ensures.front (c.is_body.ensures.0 c.if-not-is_body.false))

pub returns : goal.returns
returns c = all_bodies _ _ _ _ c.loop-k-test.false c.loop-k.invariant
