use Rattle.std.proofs.Common.{sym, ◌∙◌}
use Rattle.watchers.proofs.Numbers.{misses-part}
use Rattle.nosleep.proofs.telling.tell_chosen.Goals as goal

pub returns-in-Err-Failed-clause-sum : goal.returns-in-Err-Failed-clause-sum
returns-in-Err-Failed-clause-sum g c = sym (misses-part c.args.kinds.now _ c.args.all.now _ _ (sym c.is_wanted.ensures ∙ c.if-not-is_wanted.false) c.in-Err-Failed.ensures.part)

pub returns-in-Err-Memory-clause-sum : goal.returns-in-Err-Memory-clause-sum
returns-in-Err-Memory-clause-sum g c = sym (misses-part c.args.kinds.now _ c.args.all.now _ _ (sym c.is_wanted.ensures ∙ c.if-not-is_wanted.false) c.in-Err-Memory.ensures.part)
