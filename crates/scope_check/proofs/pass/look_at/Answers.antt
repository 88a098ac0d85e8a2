use Rattle.std.proofs.Common.{refl, Bool, List, subst}
use Rattle.scope_check.specs.Founds.{Keeps}
use Rattle.scope_check.proofs.Steps.{look_step, second_tests, stored_told}
use Rattle.scope_check.proofs.pass.look_at.Goals as goal

pub returns : goal.returns
returns c = λ heads before.
    look_step c.args.survey.now c.told.ensures heads c.args.method.0 c.args.index c.args.pass before c.ins-pc.result.0 c.ins-pc.ensures.pc c.requires.reached
    c.keep-first.result c.keep-kept.result _ c.with_stored-stored.result
    (stored_told c.args.survey.now.case c.args.method.0 c.args.index c.act-act.result _ _ c.act-act.ensures (rw (c.row-row.ensures.table, c.row-row.ensures.method, c.row-row.ensures.index) refl) c.new_store-fresh.ensures)
    (subst (λ (tests : List Bool). Keeps tests c.args.method.0 c.ins-pc.result.0 c.args.pass.kept c.keep-first.result) c.tests-tests.ensures c.keep-first.ensures)
    (subst (λ (again : Bool). Keeps (second_tests again) c.args.method.0 c.ins-pc.result.0 c.keep-first.result c.keep-kept.result) c.has_stored-again.ensures c.keep-kept.ensures)
    c.with_stored-stored.ensures
