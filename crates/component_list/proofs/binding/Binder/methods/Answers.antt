use Rattle.std.proofs.Common.{None, arith, ◌∙◌}
use Rattle.component_list.proofs.BoundLaws.{method_by_numbers, methods_all, methods_more, numbers_get}
use Rattle.component_list.proofs.binding.Binder.methods.Goals as goal

pub loop-k-preserved : goal.loop-k-preserved
loop-k-preserved c =
    let method = c.method.ensures ∙ method_by_numbers c.args.self.now c.args.class.0 c.args.kind c.loop-k.k _
    (numbers_get c.args.self.now c.args.kind c.callbacks-callbacks.result.now c.loop-k.k (record { name = None; proto = None }) c.callbacks-callbacks.ensures (omega arith)) in
    c.in_ok-push.ensures.items ∙ methods_more c.args.self.now c.args.class.0 c.args.kind c.loop-k.k c.loop-k.methods.items c.method.result c.loop-k.invariant method

pub returns : goal.returns
returns c = c.loop-k.invariant ∙ methods_all c.args.self.now c.args.class.0 c.args.kind c.loop-k.k c.callbacks-callbacks.result.now c.callbacks-callbacks.ensures (omega arith)
