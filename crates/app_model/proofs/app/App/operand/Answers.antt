use Rattle.std.proofs.Common.{subst}
use Rattle.app_model.specs.Sound.{IsSoundApp}
use Rattle.app_model.proofs.Invokes.{named_exact}
use Rattle.app_model.proofs.app.App.operand.Goals as goal

pub returns-clause-exact : goal.returns-clause-exact
returns-clause-exact c =
    named_exact c.args.self.now c.args.method.0 c.args.index (subst IsSoundApp c.self.view_is c.self.invariant.0) c.requires.method c.requires.index
