use Rattle.std.proofs.Common.{◌∙◌, ap, refl, Some}
use Rattle.scope_facts.proofs.fields.made_type.Goals as goal

pub returns-in-NewInstance-clause-within : goal.returns-in-NewInstance-clause-within
returns-in-NewInstance-clause-within c = c.told.ensures.ranges.kinds c.args.method.0 c.args.index _ c.in-NewInstance.kind (c.ins-ins.ensures.ins ∙ ap Some c.in-NewInstance.is) refl
