-- The flow rules of subjects that are alike have the same instances, at the same places.
use Rattle.std.proofs.Common.{◌≡◌, ℕ, List, [], ◌∷◌, refl, sym, ◌∙◌, subst, inl, inr}
use Rattle.app_model.specs.Facts.{Fact, At, View}
use Rattle.app_model.specs.Subject.{SubjectParts}
use Rattle.flow_model.specs.Derived.{Set}
use Rattle.flow_model.specs.InScope.{IsInScope}
use Rattle.flow_model.specs.Places.{Place, between_place, place, start_place}
use Rattle.flow_model.specs.Places as named
use Rattle.flow_model.specs.Rules.{Between, Carries, Rules, Starts, V1, V2, V3, V4, V5}
use Rattle.one_scope.proofs.Instances.{inside_at}
use Rattle.one_scope.proofs.Owners.{beside}
use Rattle.one_scope.proofs.Rules.{between_over, same_entered}
use Rattle.cert_check.specs.Broken.{LeadsOut, place_of}

module _ (x y : SubjectParts) (left : IsInScope x) (right : IsInScope (beside x y)) (l : ℕ) where
  abbrev z : SubjectParts
  z = beside x y

  -- instances with these needs, to this fact, at this place
  abbrev StartsAt : List Fact → Fact → Place → Type 0
  StartsAt needs f at = (s : Starts z l needs f) × (start_place z l s ≡ at)

  abbrev RulesAt : List Fact → Fact → Place → Type 0
  RulesAt needs f at = (r : Rules z l needs f) × (place_of z l r ≡ at)

  starts_at : {needs : List Fact} {f : Fact} (s : Starts x l needs f) → StartsAt needs f (start_place x l s)
  starts_at (V3 {c = c} {q = q} {s = s} {m = m} {edge = edge} e there from callback) =
      subst (λ (n : ℕ). StartsAt (View c q s ∷ []) (At m n 0 n) (place named.V3 c q e)) (sym (same_entered x y left right l c edge s))
      (V3 e there from callback, refl)

  between_same : {needs : List Fact} {f : Fact} (b : Between x (Carries x l) needs f) → between_place z (Carries z l) (between_over x y left right l b) ≡ between_place x (Carries x l) b
  unfolding between_over
  between_same (V1 below) = refl
  between_same (V2 e there from to none carried) = refl
  between_same (V4 e m there from to callback carried) = refl
  between_same (V5 e other there from carried) = refl

  rules_at : {needs : List Fact} {f : Fact} (r : Rules x l needs f) → RulesAt needs f (place_of x l r)
  rules_at (inl (inl i)) = let a = inside_at x y left right l i in (inl (inl a.0), a.1)
  rules_at (inl (inr s)) = let a = starts_at s in (inl (inr a.0), a.1)
  rules_at (inr b) = (inr (between_over x y left right l b), between_same b)

  pub leads_over : (set : Set) (at : Place) → LeadsOut x l set at → LeadsOut z l set at
  leads_over set at out =
      let r = rules_at out.rule in
      record { needs = out.needs; fact = out.fact; rule = r.0; there = r.1 ∙ out.there; has = out.has; lacks = out.lacks }
