use Rattle.std.proofs.Common.{refl}
use Rattle.cert_facts.proofs.Told.{body_told}
use Rattle.cert_facts.proofs.entered.Entered.mask.Goals as goal

pub returns : goal.returns
returns c = rw (← c.self.view_is) (λ s. body_told c.self.inside.task.now c.args.which _ _ _ _ _ s c.self.invariant.1 refl (c.body_mask.ensures s))
