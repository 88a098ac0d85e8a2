use Rattle.std.proofs.Common.{Some, ap, arith, ◌∙◌}
use Rattle.toml.specs.View.{view}
use Rattle.toml.proofs.Views.{get_item_within, get_item_past}
use Rattle.component_list.proofs.values.item.Goals as goal

pub returns-then-place-len : goal.returns-then-place-len
returns-then-place-len c = ap (λ v. Some (view v)) c.index.ensures ∙ get_item_within c.args.array.now.items c.args.place c.index.result.now (omega arith)

pub returns-else-place-len : goal.returns-else-place-len
returns-else-place-len c = get_item_past c.args.array.now.items c.args.place (omega arith)
