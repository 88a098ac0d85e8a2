use Rattle.std.proofs.Common.{arith, rules}
use Rattle.app_model.proofs.TypeIndex.{class_here, class_none}
use Rattle.app_model.proofs.hierarchy.find_class.Goals as goal

pub returns-then-class-kind-clause-is : goal.returns-then-class-kind-clause-is
returns-then-class-kind-clause-is c =
    class_here c.args.classes.now c.args.kind.0 c.loop-c.c c.index-classes-c.result c.loop-c-test.true (λ k less. c.loop-c.invariant k c.index-classes-c.result less) (search (rules, c.index-classes-c.is, c.if-class-kind.true))

pub returns-clause-is : goal.returns-clause-is
returns-clause-is c = class_none c.args.classes.now c.args.kind.0 (λ k d below. c.loop-c.invariant k d (omega (arith, below, c.loop-c-test.false)))
