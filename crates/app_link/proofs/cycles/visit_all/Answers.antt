use Rattle.std.proofs.Common.{◌≡◌, ◌<◌, ◌∙◌, Some, slice_get, sym, subst, ⊎_elim, arith}
use Rattle.app_model.specs.Parts.{ClassParts}
use Rattle.app_link.specs.Cycles.{IsDone}
use Rattle.app_link.proofs.Ancestry.{got_at, same_at, below_more, met_parent, unmarked_more, either}
use Rattle.app_link.proofs.cycles.visit_all.Goals as goal

pub visit-changed-requires : goal.visit-changed-requires
visit-changed-requires c = λ u p.
    let at = c.loop-c in
    subst (λ n. u < n) (sym at.invariant.len) (c.requires at.c _ (got_at c.args.classes.now at.c _ (omega (arith, c.loop-c-test.true)) c.index-classes-c.is) u p)

pub loop-c-preserved : goal.loop-c-preserved
loop-c-preserved c =
    let at = c.loop-c in
    let was = at.invariant in
    let now = c.visit-changed.ensures in
    let there = got_at c.args.classes.now at.c c.index-classes-c.result (omega (arith, c.loop-c-test.true)) c.index-classes-c.is in
    let fewer = unmarked_more c.args.marks.now.items _ _ at.changed c.visit-changed.result _ was.fewer was.least now.marks in record {
      len = now.marks.len ∙ was.len;
      ancestors = λ from u marked.
          ⊎_elim (was.ancestors from u)
          (λ new. met_parent c.args.classes.now c.args.start at.marks.items at.c c.index-classes-c.result u (was.ancestors from) there new.0 new.1)
          (now.marks.only u marked);
      done = λ none.
          let both = either at.changed c.visit-changed.result none in
          λ k class below here.
          below_more (λ k. (class : ClassParts) → slice_get c.args.classes.now k ≡ Some class → IsDone c.args.start c.visit-changed.new.marks.items class) at.c
          (λ k less class here. subst (λ m. IsDone c.args.start m class) (sym (now.marks.same both.1)) (was.done both.0 k class less here))
          (λ class here. subst (λ (s : ClassParts). IsDone c.args.start c.visit-changed.new.marks.items s) (sym (same_at c.args.classes.now at.c class _ here c.index-classes-c.is)) (now.done both.1))
          k below class here;
      fewer = fewer.0;
      least = fewer.1;
    }

pub returns-clause-done : goal.returns-clause-done
returns-clause-done c = λ none k class below here. c.loop-c.invariant.done none k class (omega (arith, below, c.loop-c-test.false)) here
