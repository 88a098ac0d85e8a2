use Rattle.tag_flow.proofs.Running.{between_more}
use Rattle.tag_flow.proofs.Turns.{step_kept}
use Rattle.tag_flow.proofs.passing.pass_part.Goals as goal

pub pass_tag-changed-requires-clause-step : goal.pass_tag-changed-requires-clause-step
pass_tag-changed-requires-clause-step c =
    step_kept _ _ _ _ _ _ c.pass_kept-run.ensures.turn c.requires.step

pub returns-clause-turn : goal.returns-clause-turn
returns-clause-turn c =
    between_more _ _ _ _ _ _ _ _ _ c.pass_kept-run.ensures.turn c.pass_tag-changed.ensures
