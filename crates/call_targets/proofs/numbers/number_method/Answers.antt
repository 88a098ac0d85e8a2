use Rattle.std.proofs.Common.{◌+◌, subst, sym}
use Rattle.call_targets.specs.Numbered.{AddsUses}
use Rattle.call_targets.proofs.Uses.{uses_more}
use Rattle.call_targets.proofs.numbers.number_method.Goals as goal

pub loop-i-preserved : goal.loop-i-preserved
loop-i-preserved c =
    subst (AddsUses c.args.app.now c.args.method.0 (c.loop-i.i + 1) c.args.table.now c.number_call.new.table) (sym c.in_ok-push.ensures.items)
    (uses_more c.args.app.now c.args.method.0 c.loop-i.i c.args.table.now c.loop-i.table c.number_call.new.table c.loop-i.uses.items c.in_ok-number_call.field-0 c.loop-i.invariant c.in_ok-number_call.ensures)
