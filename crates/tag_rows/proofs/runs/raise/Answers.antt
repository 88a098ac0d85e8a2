use Rattle.std.proofs.Common.{ℕ, ◌<◌, sym, subst}
use Rattle.std.proofs.lemmas.List.Elements.{All-set}
use Rattle.app_model.specs.TagTable.{cell_count, tag_of}
use Rattle.act_model.specs.Tags.{IsJoin}
use Rattle.tag_rows.proofs.Plain.{not_bot, tags_differ}
use Rattle.tag_rows.proofs.Running.{cell_in, raises}
use Rattle.tag_rows.specs.Runs.{stays, tag_of_place}
use Rattle.tag_rows.proofs.runs.raise.Goals as goal

pub join_others-joined-requires-clause-differ : goal.join_others-joined-requires-clause-differ
join_others-joined-requires-clause-differ c =
    tags_differ _ _ (cell_in _ _ c.requires.cells) c.requires.fits (λ e. c.requires.differ (sym e))

pub join_others-joined-requires-clause-left : goal.join_others-joined-requires-clause-left
join_others-joined-requires-clause-left c =
    not_bot _ c.requires.before

pub join_others-joined-requires-clause-right : goal.join_others-joined-requires-clause-right
join_others-joined-requires-clause-right c =
    not_bot _ c.requires.cell

pub returns-then-joined-before-clause-joins : goal.returns-then-joined-before-clause-joins
returns-then-joined-before-clause-joins c =
    stays (subst (λ (n : ℕ). IsJoin (tag_of_place c.args.cells.now c.args.place) (tag_of c.args.cell) (tag_of n)) c.if-joined-before.true c.join_others-joined.ensures.joins)

pub returns-clause-joins : goal.returns-clause-joins
returns-clause-joins c =
    raises _ _ _ _ c.join_others-joined.ensures.fits (cell_in _ _ c.requires.cells) c.join_others-joined.ensures.joins c.if-joined-before.false

pub returns-clause-cells : goal.returns-clause-cells
returns-clause-cells c =
    All-set (λ (n : ℕ). n < cell_count) c.args.cells.now c.args.place c.join_others-joined.result c.join_others-joined.ensures.fits c.requires.cells
