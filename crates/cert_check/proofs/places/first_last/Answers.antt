use Rattle.std.proofs.Common.{sym, ◌∙◌}
use Rattle.cert_check.proofs.FirstPlaces.{unreached_none}
use Rattle.cert_check.proofs.places.first_last.Goals as goal

pub returns-then-not-reaches : goal.returns-then-not-reaches
returns-then-not-reaches c = unreached_none c.args.rule c.args.task.now c.told.ensures (sym c.is_inside.ensures ∙ c.if-not-is_inside.false) _ _ (rw c.subject.ensures at (sym c.reaches.ensures ∙ c.if-not-reaches.true))

pub returns : goal.returns
returns c = rw c.new.ensures at c.first_pc.ensures
