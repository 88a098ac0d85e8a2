-- Arrays and tables of a document beside the lists that hold them.
use Rattle.std.proofs.Common.{◌≡◌, suc, List, [], ◌∷◌, length, refl, ap}
use Rattle.toml.specs.View.{items_view}
use Rattle.toml.specs.declared.value.Value.{Value}
use Rattle.component_list.specs.Reading.{item_count}

pub item_count-view : (vs : List Value) → length vs ≡ item_count (items_view vs)
item_count-view [] = refl
item_count-view (v ∷ vs) = ap suc (item_count-view vs)
