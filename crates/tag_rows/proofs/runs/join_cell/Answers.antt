use Rattle.std.proofs.Common.{ℕ, subst}
use Rattle.app_model.specs.TagTable.{tag_of}
use Rattle.act_model.specs.Tags.{IsJoin}
use Rattle.act_model.proofs.TagLaws.{IsJoin-bot_right}
use Rattle.tag_rows.proofs.Plain.{bot_cell, join_same}
use Rattle.tag_rows.proofs.Running.{takes}
use Rattle.tag_rows.specs.Runs.{stays}
use Rattle.tag_rows.proofs.runs.join_cell.Goals as goal

pub returns-then-cell-before-clause-joins : goal.returns-then-cell-before-clause-joins
returns-then-cell-before-clause-joins c =
    stays (subst (λ (n : ℕ). IsJoin (tag_of n) (tag_of c.args.cell) (tag_of n)) c.if-cell-before.true (join_same (tag_of c.args.cell)))

pub returns-then-before-eq0-clause-joins : goal.returns-then-before-eq0-clause-joins
returns-then-before-eq0-clause-joins c =
    takes _ _ _ c.if-before-eq0.true c.requires.fits c.if-cell-before.false

pub returns-then-cell-eq0-clause-joins : goal.returns-then-cell-eq0-clause-joins
returns-then-cell-eq0-clause-joins c =
    stays (rw (c.if-cell-eq0.true, bot_cell) (IsJoin-bot_right _))
