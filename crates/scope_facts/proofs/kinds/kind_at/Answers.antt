use Rattle.std.proofs.Common.{arith}
use Rattle.std.proofs.lemmas.Option.{slice_get-get_or}
use Rattle.scope_facts.proofs.kinds.kind_at.Goals as goal

pub returns : goal.returns
returns c = c.requires.kinds.each c.args.kind.0 _ (slice_get-get_or c.args.kinds.now c.args.kind.0 _ (omega (arith, c.requires.kind, c.requires.kinds.len)))
