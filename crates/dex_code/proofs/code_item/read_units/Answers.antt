use Rattle.std.proofs.Common.{◌∙◌}
use Rattle.dex_code.specs.CodeItem.{code_unit}
use Rattle.dex_code.proofs.Steps.{list_below_more}
use Rattle.dex_code.proofs.code_item.read_units.Goals as goal

pub loop-k-preserved : goal.loop-k-preserved
loop-k-preserved c = c.in_ok-push.ensures.items ∙ list_below_more (code_unit c.args.bytes.now c.args.at) c.loop-k.k _ _ c.loop-k.invariant c.unit_from.ensures
