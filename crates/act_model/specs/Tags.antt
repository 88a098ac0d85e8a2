-- The order of tags. Bot is below all. Zero, Solid and each Held are below Any. All are below Mixed.
use Rattle.std.specs.Prelude.{Bool, true, false}
use Rattle.ns_base.specs.declared.rows.LockNo.{LockNo}
use Rattle.app_model.specs.declared.tag.Tag.{Tag}
use Rattle.app_model.specs.declared.tag.Tag.TheVariants.{Bot, Zero, Solid, Held, Any, Field, New, Mixed}

pub data Under : Tag → Tag → Type 0 where
  itself : {t : Tag} → Under t t
  bot_all : {t : Tag} → Under Bot t
  zero_any : Under Zero Any
  solid_any : Under Solid Any
  held_any : {l : LockNo} → Under (Held l) Any
  all_mixed : {t : Tag} → Under t Mixed

-- the least tag that is above both
pub record IsJoin (a b join : Tag) : Type 0 where
  pub left : Under a join
  pub right : Under b join
  pub least : (t : Tag) → Under a t → Under b t → Under join t

-- Any, or a tag below it
abbrev pub at_most_any : Tag → Bool
at_most_any Bot = true
at_most_any Zero = true
at_most_any Solid = true
at_most_any (Held l) = true
at_most_any Any = true
at_most_any (Field l) = false
at_most_any (New k) = false
at_most_any Mixed = false
