use Rattle.std.proofs.Common.{◌≡◌, subst, rules}
use Rattle.app_model.specs.declared.tag.Tag.{Tag}
use Rattle.act_model.specs.Tags.{IsJoin}
use Rattle.act_model.proofs.TagLaws.{IsJoin-same, IsJoin-bot_left, IsJoin-bot_right}
use Rattle.act_model.proofs.tags.join.Goals as goal

pub returns-then-eq : goal.returns-then-eq
returns-then-eq c = let same : c.args.a ≡ c.args.b = search rules in subst (λ (t : Tag). IsJoin c.args.a t c.args.a) same (IsJoin-same c.args.a)

pub returns-in-Bot-default : goal.returns-in-Bot-default
returns-in-Bot-default c = rw c.in-Bot-default.is-0 (IsJoin-bot_left c.args.b)

pub returns-in_default-Bot : goal.returns-in_default-Bot
returns-in_default-Bot c = rw c.in_default-Bot.is-1 (IsJoin-bot_right c.args.a)
