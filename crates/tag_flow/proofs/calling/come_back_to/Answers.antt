use Rattle.std.proofs.Common.{◌-◌, rules, subst}
use Rattle.tag_flow.specs.Goals.{AnswerAt}
use Rattle.tag_flow.specs.Turns.{Turn}
use Rattle.tag_flow.proofs.Below.{back_turn}
use Rattle.tag_flow.proofs.Loops.{successor_below}
use Rattle.tag_flow.proofs.Reached.{callee_reached, known_below}
use Rattle.tag_flow.proofs.calling.come_back_to.Goals as goal

pub beside-to-requires-clause-index : goal.beside-to-requires-clause-index
beside-to-requires-clause-index c =
    (successor_below _ _ _ c.told.ensures.app c.requires.source.spot.index _ _ c.requires.to.1).0

pub answer-tag-requires-clause-method : goal.answer-tag-requires-clause-method
answer-tag-requires-clause-method c =
    known_below _ c.told.ensures _ (callee_reached _ c.told.ensures _ _ _ c.requires.source.spot.reached c.requires.callee)

pub returns : goal.returns
returns c =
    let k = c.args.known.now in
    rw c.note.ensures (subst (λ j. Turn k (AnswerAt k c.args.from.method.0 j c.args.callee) c.args.state.now c.join-changed.new.self c.join-changed.result) c.beside-to.ensures.index
    (back_turn _ _ _ c.args.from c.beside-to.result c.requires.to.0 c.args.callee (c.beside-to.result.width - 1) _ c.requires.source c.beside-to.ensures.spot (search rules) (search rules) c.requires.callee (search rules) (rw c.answer-tag.ensures at c.join-changed.ensures.joins) c.join-changed.ensures.answers))
