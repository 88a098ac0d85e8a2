use Rattle.std.proofs.Common.{codes, decimal, rules}
use Rattle.watchers.proofs.Joins.{left_7, same_text}
use Rattle.watchers.proofs.lines.end_line.Goals as goal

pub returns : goal.returns
returns c = same_text _ _ _ _ (left_7 (codes "reads ") (decimal c.args.reads) (codes " helds ") (decimal c.args.helds) (codes " exit ") (decimal c.args.exit) (codes "\n")) (search rules)
