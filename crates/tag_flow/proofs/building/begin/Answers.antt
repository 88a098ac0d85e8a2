use Rattle.std.proofs.Common.{◌∷◌, [], ◌∙◌, ap, replicate}
use Rattle.app_model.specs.TagTable.{TagParts}
use Rattle.tag_flow.proofs.Begin.{below_first, state_first}
use Rattle.tag_flow.proofs.building.begin.Goals as goal

pub returns-clause-state : goal.returns-clause-state
returns-clause-state c =
    let answers = c.new-state.ensures.answers ∙ c.in_ok-answers.ensures ∙ ap (λ n. let t : TagParts = record { registers = 0 ∷ []; cells = replicate n 0 ∷ [] } in t) c.method_count.ensures in
    state_first _ c.told.ensures _ (rw c.new-state.ensures.table c.in_ok-table.ensures) answers

pub returns-clause-below : goal.returns-clause-below
returns-clause-below c =
    let answers = c.new-state.ensures.answers ∙ c.in_ok-answers.ensures ∙ ap (λ n. let t : TagParts = record { registers = 0 ∷ []; cells = replicate n 0 ∷ [] } in t) c.method_count.ensures in
    below_first _ c.told.ensures _ (rw c.new-state.ensures.table c.in_ok-table.ensures) answers
