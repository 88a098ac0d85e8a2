use Rattle.std.proofs.Common.{◌∙◌}
use Rattle.dex_code.proofs.Sorted.{found}
use Rattle.dex_code.proofs.handlers.begins_list.Goals as goal

pub returns : goal.returns
returns c = c.is_ok.ensures.value ∙ found c.args.starts.now c.args.place _ c.binary_search.ensures.position c.requires
