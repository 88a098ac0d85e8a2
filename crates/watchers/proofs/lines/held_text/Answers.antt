use Rattle.std.proofs.Common.{codes, decimal, rules}
use Rattle.serde_json.proofs.OnLiterals.{serde_json_on_literals}
use Rattle.watchers.proofs.Joins.{left_9, same_text}
use Rattle.watchers.proofs.lines.held_text.Goals as goal

pub returns : goal.returns
unfolding serde_json_on_literals
returns c = same_text _ _ _ _ (left_9 (codes "{\"callback\":") (decimal c.args.callback) (codes ",\"component\":") (decimal c.args.component) (codes ",\"event\":\"held\",\"lock\":") (decimal c.args.lock) (codes ",\"status\":") (decimal c.args.status) (codes "}")) (search rules)
