use Rattle.std.proofs.Common.{codes, decimal, rules}
use Rattle.serde_json.proofs.OnLiterals.{serde_json_on_literals}
use Rattle.watchers.proofs.Joins.{left_5, same_text}
use Rattle.watchers.proofs.lines.read_text.Goals as goal

pub returns : goal.returns
unfolding serde_json_on_literals
returns c = same_text _ _ _ _ (left_5 (codes "{\"bytes\":") (decimal c.args.bytes) (codes ",\"event\":\"read\",\"file\":") (decimal c.args.file) (codes "}")) (search rules)
