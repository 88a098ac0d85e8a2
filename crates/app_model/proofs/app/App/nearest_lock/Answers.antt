use Rattle.std.proofs.Common.{arith}
use Rattle.std.proofs.lemmas.Grind.{common_steps}
use Rattle.app_model.proofs.Searches.{nearest-step}
use Rattle.app_model.proofs.app.App.nearest_lock.Goals as goal

pub loop-step-preserved : goal.loop-step-preserved
loop-step-preserved c = grind (arith, common_steps, nearest-step)
