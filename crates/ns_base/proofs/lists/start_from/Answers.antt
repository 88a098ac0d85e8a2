use Rattle.std.proofs.Common.{rules}
use Rattle.ns_base.proofs.CutLaws.{start_before}
use Rattle.ns_base.proofs.lists.start_from.Goals as goal

pub returns-else-number-eq0 : goal.returns-else-number-eq0
returns-else-number-eq0 c = search (rules, start_before)
