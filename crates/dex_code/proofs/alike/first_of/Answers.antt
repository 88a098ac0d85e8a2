use Rattle.std.proofs.lemmas.Map.Text.{btree_map_updates_str}
use Rattle.dex_code.proofs.alike.first_of.Goals as goal

pub returns-clause-firsts : goal.returns-clause-firsts
returns-clause-firsts c = btree_map_updates_str c.args.text.now c.args.firsts.now c.insert.new.self _ c.in_ok-insert.ensures.updates
