-- What holds of derivations, whatever the rules are.
use Rattle.std.proofs.Common.{◌≡◌, true, List, [], ◌∷◌, ⊎_elim}
use Rattle.app_model.specs.Facts.{Fact}
use Rattle.flow_model.specs.Derived.{Set, Derived, all_done, is_given, by_rule, HasAll, IsClosed, IsLeast, Either}

module _ (rules : List Fact → Fact → Type 0) where
  -- a closed set with the given facts has all that is derived
  pub in_closed : (given set : Set) → ((f : Fact) → given f ≡ true → set f ≡ true) → IsClosed rules set → {fs : List Fact} → Derived rules given fs → HasAll set fs
  in_closed given set has closed all_done = tt
  in_closed given set has closed (is_given h d) = (has _ h, in_closed given set has closed d)
  in_closed given set has closed (by_rule r n d) = (closed.by _ _ r (in_closed given set has closed n), in_closed given set has closed d)

  -- one fact before others
  pub one_more : (given : Set) (f : Fact) (fs : List Fact) → Derived rules given (f ∷ []) → Derived rules given fs → Derived rules given (f ∷ fs)
  one_more given f fs (is_given h d) e = is_given h e
  one_more given f fs (by_rule r n d) e = by_rule r n e

  -- what is derived from derived facts is derived
  pub derived_again : (given more : Set) → ((f : Fact) → more f ≡ true → Derived rules given (f ∷ [])) → {fs : List Fact} → Derived rules more fs → Derived rules given fs
  derived_again given more from all_done = all_done
  derived_again given more from (is_given h d) = one_more given _ _ (from _ h) (derived_again given more from d)
  derived_again given more from (by_rule r n d) = by_rule r (derived_again given more from n) (derived_again given more from d)

  -- a closed set of derived facts, with the given ones among them, is the least one
  pub least : (given set : Set) → ((f : Fact) → given f ≡ true → set f ≡ true) → ((f : Fact) → set f ≡ true → Derived rules given (f ∷ [])) → IsClosed rules set → IsLeast rules given set
  least given set has from closed = record { sound = from; complete = λ f d. (in_closed given set has closed d).0 }

-- closed under both is closed under either
pub both_closed : (a b : List Fact → Fact → Type 0) (set : Set) → IsClosed a set → IsClosed b set → IsClosed (Either a b) set
both_closed a b set x y = record { by = λ needs f r has. ⊎_elim (λ s. x.by needs f s has) (λ s. y.by needs f s has) r }

-- more rules derive more
pub wider : (a b : List Fact → Fact → Type 0) → ((needs : List Fact) (f : Fact) → a needs f → b needs f) → (given : Set) → {fs : List Fact} → Derived a given fs → Derived b given fs
wider a b w given all_done = all_done
wider a b w given (is_given h d) = is_given h (wider a b w given d)
wider a b w given (by_rule r n d) = by_rule (w _ _ r) (wider a b w given n) (wider a b w given d)
