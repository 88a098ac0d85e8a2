use Rattle.std.proofs.Common.{◌∙◌, rules}
use Rattle.component_list.proofs.ItemLaws.{item_count-view}
use Rattle.component_list.proofs.values.item_count.Goals as goal

pub returns : goal.returns
returns c = search rules ∙ item_count-view c.args.array.now.items
