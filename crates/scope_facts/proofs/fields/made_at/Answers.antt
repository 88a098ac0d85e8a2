use Rattle.std.proofs.Common.{sym}
use Rattle.scope_facts.proofs.FieldLaws.{made_told}
use Rattle.scope_facts.proofs.fields.made_at.Goals as goal

pub returns-in-Some : goal.returns-in-Some
returns-in-Some c = made_told c.args.app.now c.args.method.0 c.args.index c.in-Some.kind.0 c.kind_at.result.above (sym c.in-Some.ensures.made) c.kind_at.ensures.above
