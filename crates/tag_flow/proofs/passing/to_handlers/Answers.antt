use Rattle.std.proofs.Common.{arith, sym}
use Rattle.app_model.specs.Words.{handler_at}
use Rattle.tag_flow.specs.Goals.{RowPassed, row_after}
use Rattle.tag_flow.proofs.Turns.{source_kept, turn_more, turn_start}
use Rattle.tag_flow.proofs.Loops.{of_one, handlers_end, handlers_none}
use Rattle.tag_flow.proofs.passing.to_handlers.Goals as goal

pub pass_to-changed-requires-clause-source : goal.pass_to-changed-requires-clause-source
pass_to-changed-requires-clause-source c =
    source_kept _ _ _ _ _ _ c.loop-number.invariant c.requires.source

pub pass_to-changed-requires-clause-leads : goal.pass_to-changed-requires-clause-leads
pass_to-changed-requires-clause-leads c =
    c.requires.leads c.loop-number.number c.in-Some.to (sym c.in-Some.ensures)

pub loop-number-init : goal.loop-number-init
loop-number-init c =
    turn_start _ _ _

pub loop-number-preserved : goal.loop-number-preserved
loop-number-preserved c =
    let k = c.args.known.now in
    let from = c.args.from in
    turn_more _ _ _ _ _ _ _ _ c.loop-number.invariant (of_one k (handler_at k.app from.method.0 from.index c.loop-number.number) c.in-Some.to (λ j. RowPassed k from.method.0 j (row_after from.method.0 from.index c.args.change.now)) _ _ _ (sym c.in-Some.ensures) c.pass_to-changed.ensures)

pub returns-in_default : goal.returns-in_default
returns-in_default c =
    let k = c.args.known.now in
    let from = c.args.from in
    handlers_none k.app from.method.0 from.index c.told.ensures.app c.requires.source.spot.index k (λ j. RowPassed k from.method.0 j (row_after from.method.0 from.index c.args.change.now)) _ _ _ c.loop-number.number (sym c.in_default.ensures) c.loop-number.invariant

pub returns : goal.returns
returns c =
    let k = c.args.known.now in
    let from = c.args.from in
    handlers_end k.app from.method.0 from.index c.told.ensures.app c.requires.source.spot.index k (λ j. RowPassed k from.method.0 j (row_after from.method.0 from.index c.args.change.now)) _ _ _ c.loop-number.number (omega (arith, c.loop-number-test.false)) c.loop-number.invariant
