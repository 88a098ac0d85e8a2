use Rattle.std.proofs.Common.{ap, sym, ◌∙◌}
use Rattle.std.proofs.lemmas.Result.{IfOk-weaker}
use Rattle.call_targets.specs.Numbered.{number_in}
use Rattle.call_targets.proofs.Numbering.{call_there}
use Rattle.call_targets.proofs.numbers.number_named.Goals as goal

pub returns-in-Some : goal.returns-in-Some
returns-in-Some c =
    call_there c.args.app.now c.args.table.now (record { method = c.args.method.0; op = c.args.op; named = c.args.named }) c.in-Some.number c.requires.table (ap (number_in c.args.table.now.keys) (sym c.key_of-key.ensures) ∙ sym c.find.ensures ∙ c.in-Some.is)

pub returns-in-None : goal.returns-in-None
returns-in-None c =
    IfOk-weaker c.add.result _ _ (λ s h. h c.args.app.now (record { method = c.args.method.0; op = c.args.op; named = c.args.named }) c.requires.table c.key_of-key.ensures c.source_of.ensures) c.add.ensures
