use Rattle.std.proofs.Common.{◌<◌, ◌∙◌, slice_index, sym, ap, rules}
use Rattle.app_model.specs.Parts.{ClassParts}
use Rattle.app_link.proofs.Ancestry.{of_parents}
use Rattle.app_link.proofs.cycles.are_parents_below.Goals as goal

pub returns-then-is_parent_below : goal.returns-then-is_parent_below
returns-then-is_parent_below c = λ yes.
    of_parents (λ u. slice_index c.args.ranks.now u < c.args.limit) c.args.class.now _ _ (ap (λ (k : ClassParts). k.parent) (sym c.class.view_is)) (ap (λ (k : ClassParts). k.interfaces) (sym c.class.view_is) ∙ sym c.deref.ensures.value)
    (c.if-is_parent_below.ensures (search rules)) (c.are_below.ensures yes)
