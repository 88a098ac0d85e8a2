-- The rules inside callbacks of subjects that are alike have the same instances, at the same places.
use Rattle.std.proofs.Common.{◌≡◌, ℕ, List, refl, subst}
use Rattle.app_model.specs.Facts.{Fact}
use Rattle.app_model.specs.Subject.{SubjectParts}
use Rattle.flow_model.specs.InScope.{IsInScope}
use Rattle.flow_model.specs.Places.{Place, inside_place}
use Rattle.flow_model.specs.Rules.{C1, C2, C3, C3_leaves, I1, I1_return, I2, I3, I3_leaves, Inside}
use Rattle.flow_model.specs.Subject.{Masks, status_masks}
use Rattle.one_scope.proofs.Owners.{beside}
use Rattle.one_scope.proofs.Rules.{inside_over, same_masks}

module _ (x y : SubjectParts) (left : IsInScope x) (right : IsInScope (beside x y)) (l : ℕ) where
  abbrev z : SubjectParts
  z = beside x y

  -- instances with these needs, to this fact, at this place
  abbrev pub InsideAt : Masks → List Fact → Fact → Place → Type 0
  InsideAt masks needs f at = (i : Inside z l masks needs f) × (inside_place z l masks i ≡ at)

  inside_same : {masks : Masks} {needs : List Fact} {f : Fact} (i : Inside x l masks needs f) → inside_place z l masks (inside_over x y left right l i) ≡ inside_place x l masks i
  unfolding inside_over
  inside_same (I1 k own to may) = refl
  inside_same (I1_return back) = refl
  inside_same (I2 k own to may) = refl
  inside_same (I3 k to may) = refl
  inside_same (I3_leaves out may) = refl
  inside_same (C1 n among passes) = refl
  inside_same (C2 n among passes to) = refl
  inside_same (C3 n k among passes to) = refl
  inside_same (C3_leaves n among passes out) = refl

  pub inside_at : {needs : List Fact} {f : Fact} (i : Inside x l (status_masks x l) needs f) → InsideAt (status_masks z l) needs f (inside_place x l (status_masks x l) i)
  inside_at {needs} {f} i =
      subst (λ (masks : Masks). InsideAt masks needs f (inside_place x l (status_masks x l) i)) (same_masks x y left right l)
      (inside_over x y left right l i, inside_same i)
