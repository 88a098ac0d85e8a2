use Rattle.tag_flow.proofs.Below.{pass_turn}
use Rattle.tag_flow.proofs.Settled.{step_fits, step_within}
use Rattle.tag_flow.proofs.passing.pass_tag.Goals as goal

pub change_tag-tag-requires : goal.change_tag-tag-requires
change_tag-tag-requires c =
    rw c.row.ensures (step_within _ _ _ _ c.requires.step c.requires.register)

pub join-requires-clause-tag : goal.join-requires-clause-tag
join-requires-clause-tag c =
    step_fits _ _ _ c.told.ensures _ _ c.requires.step (rw c.row.ensures at c.change_tag-tag.ensures)

pub returns : goal.returns
returns c =
    pass_turn _ _ _ _ _ _ _ c.requires.step c.requires.register (rw c.row.ensures at c.change_tag-tag.ensures) (step_fits _ _ _ c.told.ensures _ _ c.requires.step (rw c.row.ensures at c.change_tag-tag.ensures)) c.join.ensures.joins c.join.ensures.answers
