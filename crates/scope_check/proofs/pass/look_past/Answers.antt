use Rattle.std.proofs.Common.{Bool, subst}
use Rattle.scope_check.specs.Founds.{Keeps}
use Rattle.scope_check.proofs.Steps.{past_step, past_tests}
use Rattle.scope_check.proofs.pass.look_past.Goals as goal

pub returns : goal.returns
returns c = λ heads before.
    past_step c.args.survey.now c.told.ensures heads c.args.method.0 c.args.index c.args.pass before c.ins-pc.result.0 c.ins-pc.ensures.pc c.requires.reached c.keep-kept.result c.requires.touches
    (subst (λ (touches : Bool). Keeps (past_tests touches) c.args.method.0 c.ins-pc.result.0 c.args.pass.kept c.keep-kept.result) c.is_lock_ins-touches.ensures c.keep-kept.ensures)
