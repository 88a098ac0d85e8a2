use Rattle.std.proofs.Common.{◌<◌, ◌∙◌, Contains, sym, ap, subst, inl, inr}
use Rattle.app_model.specs.Parts.{ClassParts}
use Rattle.app_model.specs.Ancestors.{IsParent}
use Rattle.app_link.proofs.Ancestry.{as_interface, climbs_more, climbs_wider}
use Rattle.app_link.proofs.cycles.climb_parents.Goals as goal

pub climb_parent-requires : goal.climb_parent-requires
climb_parent-requires c = λ u is. c.requires u (inl (ap (λ (k : ClassParts). k.parent) (sym c.class.view_is) ∙ is))

pub climb_list-requires : goal.climb_list-requires
climb_list-requires c = λ i t at.
    subst (λ n. t.0 < n) (sym c.climb_parent.ensures.len) (c.requires t.0 (as_interface c.args.class.now _ i t (ap (λ (k : ClassParts). k.interfaces) (sym c.class.view_is) ∙ sym c.deref.ensures.value) at))

pub returns : goal.returns
returns c =
    climbs_more _ _ _ (IsParent c.args.class.now) _
    (climbs_wider _ _ _ (IsParent c.args.class.now) c.climb_parent.ensures (λ u is. inl (ap (λ (k : ClassParts). k.parent) (sym c.class.view_is) ∙ is)))
    c.climb_list.ensures
    (λ u there. inr (subst (λ l. Contains l (record { 0 = u })) (sym (ap (λ (k : ClassParts). k.interfaces) (sym c.class.view_is) ∙ sym c.deref.ensures.value)) there))
