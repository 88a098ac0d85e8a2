use Rattle.tag_flow.proofs.Turns.{turn_none}
use Rattle.tag_flow.proofs.Below.{give_turn}
use Rattle.tag_rows.proofs.Fits.{answered_fits, rows_fit}
use Rattle.tag_flow.proofs.Parts.{answer_return, no_answer}
use Rattle.tag_flow.proofs.Reached.{known_below}
use Rattle.tag_flow.proofs.calling.give_back.Goals as goal

pub returns-in_default : goal.returns-in_default
returns-in_default c =
    turn_none _ _ _ (λ answer is. absurd (no_answer c.args.act.now c.in_default.ensures answer is))

pub join_answer-requires-clause-method : goal.join_answer-requires-clause-method
join_answer-requires-clause-method c =
    known_below _ c.told.ensures _ c.requires.source.spot.reached

pub join_answer-requires-clause-tag : goal.join_answer-requires-clause-tag
join_answer-requires-clause-tag c =
    rw c.answered-tag.ensures (answered_fits _ c.in-Some.returned _ (rw c.row.ensures (rows_fit _ _ c.args.from.method.0 c.args.from.index c.requires.source.state.tags)))

pub returns : goal.returns
returns c =
    give_turn _ _ _ _ c.args.from.index _ c.in-Some.returned _ _ c.requires.act (answer_return c.args.act.now c.in-Some.returned c.in-Some.ensures) c.requires.source.live (rw c.row.ensures at c.answered-tag.ensures) (rw c.answered-tag.ensures (answered_fits _ c.in-Some.returned _ (rw c.row.ensures (rows_fit _ _ c.args.from.method.0 c.args.from.index c.requires.source.state.tags)))) c.join_answer.ensures.joins c.join_answer.ensures.table
