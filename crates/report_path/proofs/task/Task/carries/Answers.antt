use Rattle.report_path.proofs.Carrying.{task_outside, task_method}
use Rattle.report_path.proofs.task.Task.carries.Goals as goal

pub returns-in-Some : goal.returns-in-Some
returns-in-Some c = task_method _ _ c.self.view_is _ _ _ _ c.args.body _ _ c.enter-entry.ensures _ c.in-Some.ensures c.shows.ensures

pub returns-in-None : goal.returns-in-None
returns-in-None c = task_outside _ _ c.self.view_is _ _ _ _ c.args.body _ _ c.enter-entry.ensures c.in-None.ensures c.stays.ensures
