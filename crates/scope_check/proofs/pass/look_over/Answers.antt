use Rattle.std.proofs.Common.{Bool, List, subst}
use Rattle.scope_check.specs.Founds.{Keeps}
use Rattle.scope_check.proofs.Heads.{heads_sound}
use Rattle.scope_check.proofs.Steps.{head_step}
use Rattle.scope_check.proofs.pass.look_over.Goals as goal

pub returns : goal.returns
returns c = λ before.
    c.look_in.ensures _ (head_step c.args.survey.now c.args.method.0 c.args.pass c.keep-kept.result before
    (subst (λ (tests : List Bool). Keeps tests c.args.method.0 0 c.args.pass.kept c.keep-kept.result) c.head_tests-tests.ensures c.keep-kept.ensures)
    (heads_sound c.args.survey.now c.told.ensures c.args.method.0 c.requires.method))
