use Rattle.std.proofs.Common.{arith, subst}
use Rattle.ns_base.specs.declared.rows.MethodNo.{MethodNo}
use Rattle.tag_flow.specs.Goals.{RowPassed, begun_row}
use Rattle.tag_flow.specs.Turns.{Turn}
use Rattle.tag_flow.proofs.Turns.{turn_as, turn_none}
use Rattle.tag_flow.proofs.Reached.{entry_reached, known_below}
use Rattle.tag_flow.proofs.sweeping.begin.Goals as goal

pub code_len-requires : goal.code_len-requires
code_len-requires c =
    known_below _ c.told.ensures _ (entry_reached _ c.told.ensures _ c.requires.entry)

pub returns-then-code_len-eq0 : goal.returns-then-code_len-eq0
returns-then-code_len-eq0 c =
    turn_none _ _ _ (λ lt. absurd (omega (arith, lt, c.if-code_len-eq0.true, c.code_len.ensures)))

pub spot-to-requires-clause-reached : goal.spot-to-requires-clause-reached
spot-to-requires-clause-reached c =
    entry_reached _ c.told.ensures _ c.requires.entry

pub begin_row-requires-clause-begins : goal.begin_row-requires-clause-begins
begin_row-requires-clause-begins c =
    record { spot = c.spot-to.ensures.spot; first = c.spot-to.ensures.index; entry = rw c.spot-to.ensures.method c.requires.entry }

pub returns : goal.returns
returns c =
    let k = c.args.known.now in
    turn_as _ _ _ _ _ _ (λ s h lt. h) (subst (λ (n : MethodNo). Turn k (RowPassed k n.0 0 (begun_row k n.0)) c.args.state.now c.begin_row.new.state c.begin_row.result) c.spot-to.ensures.method c.begin_row.ensures)
