use Rattle.std.proofs.Common.{◌<◌, ◌∙◌, Contains, sym, ap, subst, inl, inr}
use Rattle.app_model.specs.Parts.{ClassParts}
use Rattle.app_model.specs.Ancestors.{IsParent}
use Rattle.app_link.specs.Cycles.{IsMarked}
use Rattle.app_link.proofs.Ancestry.{of_parents, as_interface, marks_more, marks_wider}
use Rattle.app_link.proofs.cycles.mark_parents.Goals as goal

pub mark_parent-first-requires : goal.mark_parent-first-requires
mark_parent-first-requires c = λ u is. c.requires u (inl (ap (λ (k : ClassParts). k.parent) (sym c.class.view_is) ∙ is))

pub mark_list-others-requires : goal.mark_list-others-requires
mark_list-others-requires c = λ i t at.
    subst (λ n. t.0 < n) (sym c.mark_parent-first.ensures.marks.len) (c.requires t.0 (as_interface c.args.class.now _ i t (ap (λ (k : ClassParts). k.interfaces) (sym c.class.view_is) ∙ sym c.deref.ensures.value) at))

pub returns-clause-marks : goal.returns-clause-marks
returns-clause-marks c =
    marks_more _ _ _ _ _ (IsParent c.args.class.now) _
    (marks_wider _ _ _ _ (IsParent c.args.class.now) c.mark_parent-first.ensures.marks (λ u is. inl (ap (λ (k : ClassParts). k.parent) (sym c.class.view_is) ∙ is)))
    c.mark_list-others.ensures.marks
    (λ u there. inr (subst (λ l. Contains l (record { 0 = u })) (sym (ap (λ (k : ClassParts). k.interfaces) (sym c.class.view_is) ∙ sym c.deref.ensures.value)) there))

pub returns-clause-marked : goal.returns-clause-marked
returns-clause-marked c =
    let others = c.mark_list-others.ensures in
    of_parents (λ u. IsMarked c.mark_list-others.new.marks.items u) c.args.class.now _ _ (ap (λ (k : ClassParts). k.parent) (sym c.class.view_is)) (ap (λ (k : ClassParts). k.interfaces) (sym c.class.view_is) ∙ sym c.deref.ensures.value)
    (λ u is. others.marks.kept u (c.mark_parent-first.ensures.marked u is)) others.marked
