use Rattle.std.proofs.Common.{◌≡◌, ◌∙◌, Some, slice_get, Contains, sym, subst, arith}
use Rattle.ns_base.specs.declared.rows.TypeNo.{TypeNo}
use Rattle.app_link.specs.Cycles.{IsMarked}
use Rattle.app_link.proofs.Ancestry.{get_there, contains_at, at_get, below_more, marks_more}
use Rattle.app_link.proofs.cycles.mark_list.Goals as goal

pub loop-i-preserved : goal.loop-i-preserved
loop-i-preserved c =
    let at = c.loop-i in
    let put = c.mark-changed.ensures in
    let there = get_there c.args.list.now at.i _ (omega (arith, c.loop-i-test.true)) in record {
      marks = marks_more _ _ _ _ _ (λ u. Contains c.args.list.now (record { 0 = u })) _ at.invariant.marks put.marks
          (λ u is. subst (λ v. Contains c.args.list.now (record { 0 = v })) (sym is) (contains_at c.args.list.now at.i _ there));
      marked = λ k t below here.
          below_more (λ k. (t : TypeNo) → slice_get c.args.list.now k ≡ Some t → IsMarked c.mark-changed.new.marks.items t.0) at.i
          (λ k less t here. put.marks.kept t.0 (at.invariant.marked k t less here))
          (λ t here. subst (λ (s : TypeNo). IsMarked c.mark-changed.new.marks.items s.0) (let same : Some _ ≡ Some t = sym there ∙ here in cc) put.marked)
          k below t here;
    }

pub returns-clause-marked : goal.returns-clause-marked
returns-clause-marked c = λ i t here. c.loop-i.invariant.marked i t (let at = at_get c.args.list.now i t here in omega (arith, at.0, c.loop-i-test.false)) here
