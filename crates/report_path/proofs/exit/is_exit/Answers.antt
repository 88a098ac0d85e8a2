use Rattle.report_path.proofs.Tests.{last_part, refused}
use Rattle.report_path.proofs.Exits.{unmet_of, end_of_exit, exit_of_end}
use Rattle.report_path.proofs.exit.is_exit.Goals as goal

pub returns-then-not-is_unmet : goal.returns-then-not-is_unmet
returns-then-not-is_unmet c = refused _ c.is_unmet.ensures c.if-not-is_unmet.true (unmet_of _ _)

pub returns : goal.returns
returns c = last_part _ (rw (c.new-task.ensures, c.deref.ensures.value) at c.ends.ensures) (exit_of_end _ _ (c.is_unmet.ensures.0 c.if-not-is_unmet.false)) (end_of_exit _ _)
