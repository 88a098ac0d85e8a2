use Rattle.std.proofs.Common.{ℕ, arith, subst, ◌≡◌, length}
use Rattle.scope_check.specs.Passing.{IsPass}
use Rattle.scope_check.proofs.Complete.{first_of}
use Rattle.scope_check.proofs.Steps.{start}
use Rattle.scope_check.proofs.pass.first_break.Goals as goal

pub loop-method-init : goal.loop-method-init
loop-method-init c = start c.args.survey.now

pub loop-method-preserved : goal.loop-method-preserved
loop-method-preserved c = c.look_over-pass.ensures c.loop-method.invariant

pub returns : goal.returns
returns c =
    let all : c.loop-method.method ≡ length c.args.survey.now.case.app.methods = omega (arith, c.loop-method-test.false, c.loop-method.auto.method-end, c.method_count-method-end.ensures) in
    first_of c.args.survey.now c.told.ensures c.loop-method.pass (subst (λ (m : ℕ). IsPass c.args.survey.now m m 0 c.loop-method.pass) all c.loop-method.invariant)
