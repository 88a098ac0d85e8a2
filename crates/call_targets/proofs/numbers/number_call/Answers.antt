use Rattle.std.proofs.Common.{ap, ap₂, sym, ◌∙◌}
use Rattle.app_model.specs.Targets.{call_of}
use Rattle.app_model.specs.Words.{named_at}
use Rattle.call_targets.proofs.Uses.{use_call, use_none}
use Rattle.call_targets.proofs.numbers.number_call.Goals as goal

pub returns-in_default : goal.returns-in_default
returns-in_default c =
    use_none c.args.app.now c.args.method.0 c.args.i c.args.table.now c.requires.table (ap (λ o. call_of c.args.method.0 o (named_at c.args.app.now c.args.method.0 c.args.i)) (sym c.invoked.ensures ∙ c.in_default.is))

pub returns-in_ok-number_named-in-Some-named : goal.returns-in_ok-number_named-in-Some-named
returns-in_ok-number_named-in-Some-named c =
    use_call c.args.app.now c.args.method.0 c.args.i (record { method = c.args.method.0; op = c.in-Some.op; named = c.in-Some-named.named }) c.args.table.now c.number_named.new.table c.in_ok-number_named-in-Some-named.field-0
    (ap₂ (call_of c.args.method.0) (sym c.invoked.ensures ∙ c.in-Some.is) (sym c.named.ensures.is ∙ c.in-Some-named.is)) c.in_ok-number_named-in-Some-named.ensures
