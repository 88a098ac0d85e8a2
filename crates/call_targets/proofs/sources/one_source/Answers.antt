use Rattle.std.proofs.Common.{[], ◌∷◌, ℕ, Option, ap, sym}
use Rattle.call_targets.proofs.Look.{look_none}
use Rattle.call_targets.proofs.sources.one_source.Goals as goal

pub returns-in-None : goal.returns-in-None
returns-in-None c =
    rw c.make_source-in-None.ensures (ap (λ (o : Option ℕ). o ∷ []) (sym (look_none c.args.app.now c.args.class.0 c.args.named.name.0 c.args.named.proto.0 c.told.ensures (rw c.in-None.is at (sym c.class_of_type.ensures.is)))))
