use Rattle.std.proofs.Common.{arith, sym}
use Rattle.app_model.specs.Words.{successor_at}
use Rattle.tag_flow.specs.Goals.{AnswerAt}
use Rattle.tag_flow.proofs.Turns.{source_kept, turn_more, turn_start}
use Rattle.tag_flow.proofs.Loops.{of_one, successors_end, successors_none}
use Rattle.tag_flow.proofs.calling.come_back.Goals as goal

pub come_back_to-changed-requires-clause-source : goal.come_back_to-changed-requires-clause-source
come_back_to-changed-requires-clause-source c =
    source_kept _ _ _ _ _ _ c.loop-number.invariant c.requires.source

pub come_back_to-changed-requires-clause-to : goal.come_back_to-changed-requires-clause-to
come_back_to-changed-requires-clause-to c =
    (c.loop-number.number, sym c.in-Some.ensures)

pub loop-number-init : goal.loop-number-init
loop-number-init c =
    turn_start _ _ _

pub loop-number-preserved : goal.loop-number-preserved
loop-number-preserved c =
    let k = c.args.known.now in
    let from = c.args.from in
    turn_more _ _ _ _ _ _ _ _ c.loop-number.invariant (of_one k (successor_at k.app from.method.0 from.index c.loop-number.number) c.in-Some.to (λ j. AnswerAt k from.method.0 j c.args.callee) _ _ _ (sym c.in-Some.ensures) c.come_back_to-changed.ensures)

pub returns-in_default : goal.returns-in_default
returns-in_default c =
    let k = c.args.known.now in
    let from = c.args.from in
    successors_none k.app from.method.0 from.index c.told.ensures.app c.requires.source.spot.index k (λ j. AnswerAt k from.method.0 j c.args.callee) _ _ _ c.loop-number.number (sym c.in_default.ensures) c.loop-number.invariant

pub returns : goal.returns
returns c =
    let k = c.args.known.now in
    let from = c.args.from in
    successors_end k.app from.method.0 from.index c.told.ensures.app c.requires.source.spot.index k (λ j. AnswerAt k from.method.0 j c.args.callee) _ _ _ c.loop-number.number (omega (arith, c.loop-number-test.false)) c.loop-number.invariant
