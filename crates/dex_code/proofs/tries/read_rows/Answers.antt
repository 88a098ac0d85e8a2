use Rattle.std.proofs.Common.{arith}
use Rattle.std.proofs.lemmas.Result.{err_from_is_err_and}
use Rattle.dex_code.specs.Reading.{with_try}
use Rattle.dex_code.proofs.Steps.{reached_stop, reached_more}
use Rattle.dex_code.proofs.TryRows.{try_place_below}
use Rattle.dex_code.proofs.tries.read_rows.Goals as goal

pub add_try-requires-clause-row : goal.add_try-requires-clause-row
add_try-requires-clause-row c = omega (arith, try_place_below c.args.bytes.now c.args.at c.loop-t.t c.args.count c.loop-t-test.true, c.requires.rows)

pub add_try-requires-clause-room : goal.add_try-requires-clause-room
add_try-requires-clause-room c = c.loop-t.invariant.room

pub returns-in_err-add_try : goal.returns-in_err-add_try
returns-in_err-add_try c =
    let p = err_from_is_err_and c.from_residual-in_err-add_try.result c.from_residual-in_err-add_try.ensures.1 in
    rw (p.1, p.2) (reached_stop (with_try c.args.bytes.now c.args.at c.args.starts.now) _ c.loop-t.t _ _ _ c.loop-t.invariant.rows c.in_err-add_try.ensures.value c.loop-t-test.true)

pub loop-t-preserved : goal.loop-t-preserved
loop-t-preserved c = record {
  rows = reached_more (with_try c.args.bytes.now c.args.at c.args.starts.now) _ c.loop-t.t _ _ c.loop-t.invariant.rows c.in_ok-add_try.ensures.value;
  room = c.in_ok-add_try.ensures.len;
}
