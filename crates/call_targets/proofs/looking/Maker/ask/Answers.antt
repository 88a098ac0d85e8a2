use Rattle.std.proofs.Common.{rules}
use Rattle.call_targets.proofs.looking.Maker.ask.Goals as goal

pub returns-then-eq : goal.returns-then-eq
returns-then-eq c = record { maker = c.requires; below = c.requires.below c.args.kind (search rules) }
