use Rattle.std.proofs.Common.{ap}
use Rattle.std.specs.Prelude.{not}
use Rattle.std.proofs.lemmas.Bool.{ne_eqb}
use Rattle.std.proofs.lemmas.Result.{IfOk-weaker}
use Rattle.call_targets.proofs.Listed.{listed_more, listed_skip}
use Rattle.call_targets.proofs.declared.add_method.Goals as goal

pub returns-then-row-ne0 : goal.returns-then-row-ne0
returns-then-row-ne0 c = listed_skip c.args.app.now c.args.method.0 c.method-row.result.now c.method-row.ensures.is c.args.declared.now (ap not (ne_eqb _ 0 c.if-row-ne0.true)) c.requires.before

pub returns : goal.returns
returns c = IfOk-weaker c.add.result _ _ (λ done is. listed_more c.args.app.now c.args.method.0 c.method-row.result.now c.method-row.ensures.is c.args.declared.now c.add.new.self is c.requires.before) c.add.ensures
