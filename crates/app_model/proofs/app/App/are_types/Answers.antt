use Rattle.std.proofs.Common.{arith}
use Rattle.std.proofs.lemmas.Grind.{common_steps}
use Rattle.app_model.proofs.Descriptors.{are_types-unequal, are_types-step}
use Rattle.app_model.proofs.app.App.are_types.Goals as goal

pub returns-then-types-texts : goal.returns-then-types-texts
returns-then-types-texts c = grind (arith, common_steps, are_types-unequal)

pub loop-i-preserved : goal.loop-i-preserved
loop-i-preserved c = grind (arith, common_steps, are_types-step)
