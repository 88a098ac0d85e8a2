use Rattle.std.proofs.Common.{◌≡◌, drop}
use Rattle.toml.specs.View.{items_view}
use Rattle.component_list.specs.Keys.{each_item, is_item}
use Rattle.component_list.proofs.keys.are_items.Given as goal

abbrev pub invariant-items : goal.invariant-items
invariant-items l = each_item (is_item l.level) (items_view (drop l.item-index l.item-items)) ≡ each_item (is_item l.level) (items_view l.item-items)
