use Rattle.std.proofs.Common.{sym}
use Rattle.act_model.proofs.TagLaws.{IsJoin-any, IsJoin-mixed_left, IsJoin-mixed_right}
use Rattle.tag_rows.proofs.Plain.{any_tag, mixed_tag}
use Rattle.tag_rows.proofs.runs.join_others.Goals as goal

pub returns-then-not-is_at_most_any-clause-joins : goal.returns-then-not-is_at_most_any-clause-joins
returns-then-not-is_at_most_any-clause-joins c =
    rw mixed_tag (IsJoin-mixed_left _ _ c.requires.differ c.requires.left c.requires.right (sym c.if-not-is_at_most_any.ensures))

pub returns-then-not-is_at_most_any-2-clause-joins : goal.returns-then-not-is_at_most_any-2-clause-joins
returns-then-not-is_at_most_any-2-clause-joins c =
    rw mixed_tag (IsJoin-mixed_right _ _ c.requires.differ c.requires.left c.requires.right (sym c.if-not-is_at_most_any-2.ensures))

pub returns-clause-joins : goal.returns-clause-joins
returns-clause-joins c =
    rw any_tag (IsJoin-any _ _ c.requires.differ c.requires.left c.requires.right (sym c.if-not-is_at_most_any.ensures) (sym c.if-not-is_at_most_any-2.ensures))
