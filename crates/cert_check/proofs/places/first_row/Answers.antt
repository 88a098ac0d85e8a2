use Rattle.std.proofs.Common.{arith}
use Rattle.cert_check.proofs.FirstPlaces.{row_at, row_more, row_some, row_none}
use Rattle.cert_check.proofs.places.first_row.Goals as goal

pub loop-k-init : goal.loop-k-init
loop-k-init c = λ k row d lt. absurd (omega arith)

pub returns-in-Some : goal.returns-in-Some
returns-in-Some c = row_some c.args.rule c.args.task.now c.told.ensures c.requires.rule c.requires.rising _ _ _ c.loop-k.invariant (row_at _ _ _ _ _ c.rows-rows.ensures c.loop-k-test.true c.index-rows-k.is c.row.view_is) (rw c.new.ensures at c.in-Some.ensures)

pub loop-k-preserved : goal.loop-k-preserved
loop-k-preserved c = row_more c.args.rule c.args.task.now c.told.ensures c.requires.rule c.requires.rising _ _ c.loop-k.invariant (row_at _ _ _ _ _ c.rows-rows.ensures c.loop-k-test.true c.index-rows-k.is c.row.view_is) (rw c.new.ensures at c.in_default.ensures)

pub returns : goal.returns
returns c = row_none c.args.rule c.args.task.now c.told.ensures c.requires.rule c.requires.rising _ (rw c.rows-rows.ensures at c.loop-k-test.false) c.loop-k.invariant
