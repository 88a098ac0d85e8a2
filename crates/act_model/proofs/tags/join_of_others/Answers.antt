use Rattle.std.proofs.Common.{sym}
use Rattle.act_model.proofs.TagLaws.{IsJoin-any, IsJoin-mixed_left, IsJoin-mixed_right}
use Rattle.act_model.proofs.tags.join_of_others.Goals as goal

pub returns-then-not-is_at_most_any : goal.returns-then-not-is_at_most_any
returns-then-not-is_at_most_any c = IsJoin-mixed_left _ _ c.requires.differ c.requires.left c.requires.right (sym c.if-not-is_at_most_any.ensures)

pub returns-then-not-is_at_most_any-2 : goal.returns-then-not-is_at_most_any-2
returns-then-not-is_at_most_any-2 c = IsJoin-mixed_right _ _ c.requires.differ c.requires.left c.requires.right (sym c.if-not-is_at_most_any-2.ensures)

pub returns : goal.returns
returns c = IsJoin-any _ _ c.requires.differ c.requires.left c.requires.right (sym c.if-not-is_at_most_any.ensures) (sym c.if-not-is_at_most_any-2.ensures)
