use Rattle.std.proofs.Common.{sym, ◌∙◌}
use Rattle.scope_check.proofs.Steps.{method_passed}
use Rattle.scope_check.proofs.pass.look_in.Goals as goal

pub returns-else-touches_unreached : goal.returns-else-touches_unreached
returns-else-touches_unreached c = λ heads before.
    method_passed c.args.survey.now c.told.ensures heads c.args.method.0 0 c.args.pass before (sym c.reaches.ensures ∙ c.if-reaches.false) (sym c.touches_unreached.ensures ∙ c.if-touches_unreached.false)
