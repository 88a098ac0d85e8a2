use Rattle.std.proofs.Common.{pos, drop-cons, add-one}
use Rattle.std.proofs.lemmas.Result.{err_from_is_err_and}
use Rattle.method_graph.proofs.Puts.{turn_ok, turn_err}
use Rattle.method_graph.proofs.flow.put_all.Goals as goal

pub returns-in_err-put_one : goal.returns-in_err-put_one
returns-in_err-put_one c =
    let p = err_from_is_err_and c.from_residual.result c.from_residual.ensures.1 in
    let here = drop-cons c.args.offsets.now c.loop-k.k (pos 0) c.loop-k-test.true in
    rw (p.1, p.2) (λ ne. turn_err _ _ _ _ _ _ _ _ _ _ here c.target_at.ensures c.loop-k.invariant (c.in_err-put_one.ensures ne))

pub loop-k-preserved : goal.loop-k-preserved
loop-k-preserved c =
    let here = drop-cons c.args.offsets.now c.loop-k.k (pos 0) c.loop-k-test.true in
    rw add-one (turn_ok _ _ _ _ _ _ _ _ _ here c.target_at.ensures c.loop-k.invariant c.in_ok-put_one.ensures)
