use Rattle.std.proofs.Common.{◌≡◌, length, ap, ◌∙◌, arith}
use Rattle.app_model.specs.Subject.{SubjectParts}
use Rattle.solution.proofs.Starts.{empty_none, empty_more}
use Rattle.solution.proofs.solution.empty_code.Goals as goal

pub loop-method-init : goal.loop-method-init
loop-method-init c = rw c.new-code.ensures (empty_none _)

pub loop-method-preserved : goal.loop-method-preserved
loop-method-preserved c = rw (c.in_ok-add_row.ensures) (empty_more _ _ _ _ c.place_count.ensures c.loop-method.invariant)

pub returns : goal.returns
returns c =
    let count : c.method_count-method-end.result ≡ length c.args.subject.now.app.methods = c.method_count-method-end.ensures ∙ ap (λ (x : SubjectParts). length x.app.methods) c.subject.view_is in
    let end : length c.args.subject.now.app.methods ≡ c.loop-method.method = omega (arith, count, c.loop-method-test.false, c.loop-method.auto.method-end) in
    rw end c.loop-method.invariant
