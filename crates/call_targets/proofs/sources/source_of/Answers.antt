use Rattle.std.proofs.Common.{refl, sym, ◌∙◌}
use Rattle.app_model.specs.declared.calls.By.TheVariants as by
use Rattle.call_targets.proofs.Look.{foreign_row, plain_row, row_found}
use Rattle.call_targets.proofs.sources.source_of.Goals as goal

pub returns-then-is_foreign : goal.returns-then-is_foreign
returns-then-is_foreign c =
    foreign_row c.args.app.now c.args.method.0 c.args.op c.args.named c.make_source.result (sym c.is_foreign.ensures ∙ c.if-is_foreign.true) (rw c.make_source.ensures refl)

pub returns-in-Virtual : goal.returns-in-Virtual
returns-in-Virtual c =
    plain_row c.args.app.now c.args.method.0 c.args.op c.args.named c.receiver_source.result by.Virtual (sym c.is_foreign.ensures ∙ c.if-is_foreign.false) (sym c.in-Virtual.is ∙ c.call_by.ensures) (c.receiver_source.ensures c.args.method.0)

pub returns-in-Super : goal.returns-in-Super
returns-in-Super c =
    plain_row c.args.app.now c.args.method.0 c.args.op c.args.named c.super_source.result by.Super (sym c.is_foreign.ensures ∙ c.if-is_foreign.false) (sym c.in-Super.is ∙ c.call_by.ensures)
    (row_found c.args.app.now c.super_source.result _ c.super_source.ensures)

pub returns-in-Direct : goal.returns-in-Direct
returns-in-Direct c =
    plain_row c.args.app.now c.args.method.0 c.args.op c.args.named c.one_source.result by.Direct (sym c.is_foreign.ensures ∙ c.if-is_foreign.false) (sym c.in-Direct.is ∙ c.call_by.ensures)
    (row_found c.args.app.now c.one_source.result _ c.one_source.ensures)

pub returns-in-Static : goal.returns-in-Static
returns-in-Static c =
    plain_row c.args.app.now c.args.method.0 c.args.op c.args.named c.one_source-in-Static.result by.Static (sym c.is_foreign.ensures ∙ c.if-is_foreign.false) (sym c.in-Static.is ∙ c.call_by.ensures)
    (row_found c.args.app.now c.one_source-in-Static.result _ c.one_source-in-Static.ensures)
