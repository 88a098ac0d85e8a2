use Rattle.std.proofs.Common.{subst, arith}
use Rattle.ns_base.specs.declared.rows.MethodNo.{MethodNo}
use Rattle.tag_flow.specs.Goals.{RowPassed, entering_row}
use Rattle.tag_flow.specs.Turns.{Turn}
use Rattle.tag_flow.proofs.Turns.{turn_none}
use Rattle.tag_flow.proofs.Parts.{entered, handing_call, no_handing}
use Rattle.tag_flow.proofs.Reached.{callee_reached, known_below}
use Rattle.tag_flow.proofs.calling.enter.Goals as goal

pub returns-in_default : goal.returns-in_default
returns-in_default c =
    turn_none _ _ _ (λ how usage arguments gives is lt. absurd (no_handing c.args.act.now c.in_default.ensures how usage arguments gives is))

pub code_len-requires : goal.code_len-requires
code_len-requires c =
    known_below _ c.told.ensures _ (callee_reached _ c.told.ensures _ _ _ c.requires.source.spot.reached c.requires.callee)

pub returns-then-code_len-eq0 : goal.returns-then-code_len-eq0
returns-then-code_len-eq0 c =
    turn_none _ _ _ (λ how usage arguments gives is lt. absurd (omega (arith, lt, c.if-code_len-eq0.true, c.code_len.ensures)))

pub spot-to-requires-clause-reached : goal.spot-to-requires-clause-reached
spot-to-requires-clause-reached c =
    callee_reached _ c.told.ensures _ _ _ c.requires.source.spot.reached c.requires.callee

pub enter_row-requires-clause-enters : goal.enter_row-requires-clause-enters
enter_row-requires-clause-enters c =
    record { spot = c.spot-to.ensures.spot; first = c.spot-to.ensures.index; callee = rw c.spot-to.ensures.method c.requires.callee; call = (let call = handing_call c.args.act.now c.in-Some.handing c.in-Some.ensures in (call.0, call.1, rw (← call.2) c.requires.act)) }

pub returns : goal.returns
returns c =
    let k = c.args.known.now in
    let from = c.args.from in
    entered _ _ _ _ _ c.in-Some.handing _ _ _ c.in-Some.ensures (subst (λ (n : MethodNo). Turn k (RowPassed k n.0 0 (entering_row k from.method.0 from.index n.0 c.in-Some.handing.by c.in-Some.handing.args)) c.args.state.now c.enter_row.new.state c.enter_row.result) c.spot-to.ensures.method c.enter_row.ensures)
