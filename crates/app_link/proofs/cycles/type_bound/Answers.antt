use Rattle.std.proofs.Common.{◌≡◌, ◌<◌, ℕ, Some, slice_get, subst, arith}
use Rattle.app_model.specs.Parts.{ClassParts}
use Rattle.app_model.specs.Ancestors.{IsParent}
use Rattle.app_link.proofs.Ancestry.{at_get, same_at, below_more}
use Rattle.app_link.proofs.cycles.type_bound.Goals as goal

pub loop-c-preserved : goal.loop-c-preserved
loop-c-preserved c =
    let at = c.loop-c in
    let now = c.above_parents-bound.ensures in (
      now.limit,
      λ k class below here.
          below_more (λ k. (class : ClassParts) → slice_get c.args.classes.now k ≡ Some class → (u : ℕ) → IsParent class u → u < c.above_parents-bound.result) at.c
          (λ k less class here u p. let was = at.invariant.1 k class less here u p in omega (arith, was, now.more))
          (λ class here u p. now.parents u (subst (λ (s : ClassParts). IsParent s u) (same_at c.args.classes.now at.c class _ here c.index-classes-c.is) p))
          k below class here,
    )

pub returns-clause-types : goal.returns-clause-types
returns-clause-types c = λ k class here. c.loop-c.invariant.1 k class (let at = at_get c.args.classes.now k class here in omega (arith, at.0, c.loop-c-test.false)) here
