use Rattle.std.proofs.Common.{arith}
use Rattle.tag_rows.proofs.Words.{range_none, range_some}
use Rattle.tag_rows.proofs.starts.arg_at.Goals as goal

pub returns-then-k-count-2 : goal.returns-then-k-count-2
returns-then-k-count-2 c =
    rw c.in-Range.is (range_some _ _ _ c.if-k-count-2.true)

pub returns-else-k-count-2 : goal.returns-else-k-count-2
returns-else-k-count-2 c =
    rw c.in-Range.is (range_none c.in-Range.first c.in-Range.count c.args.k (omega (arith, c.if-k-count-2.false)))
