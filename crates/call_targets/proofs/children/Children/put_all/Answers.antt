use Rattle.std.proofs.Common.{Contains, arith, subst}
use Rattle.std.proofs.lemmas.List.{take_all}
use Rattle.call_targets.specs.Below.{Puts}
use Rattle.call_targets.proofs.Downward.{puts_more, puts_none}
use Rattle.call_targets.proofs.children.Children.put_all.Goals as goal

pub loop-i-init : goal.loop-i-init
loop-i-init c = puts_none _ c.args.class c.args.self.now (λ t h. omega (arith, h.1))

pub loop-i-preserved : goal.loop-i-preserved
loop-i-preserved c = puts_more c.args.kinds.now c.loop-i.i (record { 0 = 0 }) c.args.class c.args.self.now c.loop-i.self c.put.new.self c.loop-i-test.true c.loop-i.invariant c.in_ok-put.ensures

pub returns : goal.returns
returns c = subst (λ kinds. Puts (λ t. Contains kinds (record { 0 = t })) c.args.class c.args.self.now c.loop-i.self) (take_all c.loop-i.i c.args.kinds.now (omega (arith, c.loop-i-test.false))) c.loop-i.invariant
