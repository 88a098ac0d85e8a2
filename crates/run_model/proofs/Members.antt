-- What holds of each member of a list.
use Rattle.std.proofs.Common.{◌≡◌, ℕ, zero, suc, Bool, true, false, if◌then◌else◌, List, [], ◌∷◌, ◌++◌, map, get_or, slice_get, Some, refl, flat_map}
use Rattle.std.specs.Prelude.{◌==◌}
use Rattle.run_model.specs.Choices.{Choices, Single, Then, by_each, counted, listed, or_single}
use Rattle.run_model.specs.Relation.{Each}

module _ {A : Type 0} (P : A → Type 0) where
  pub each_append : (xs ys : List A) → Each P xs → Each P ys → Each P (xs ++ ys)
  each_append [] ys a b = b
  each_append (x ∷ xs) ys a b = (a.0, each_append xs ys a.1 b)

  pub each_get : (xs : List A) (i : ℕ) (d : A) → Each P xs → P d → P (get_or xs i d)
  each_get [] i d a b = b
  each_get (x ∷ xs) zero d a b = a.0
  each_get (x ∷ xs) (suc i) d a b = each_get xs i d a.1 b

  pub each_if : (b : Bool) (xs ys : List A) → (b ≡ true → Each P xs) → (b ≡ false → Each P ys) → Each P (if b then xs else ys)
  each_if true xs ys f g = f refl
  each_if false xs ys f g = g refl

  pub each_all : ((x : A) → P x) → (xs : List A) → Each P xs
  each_all all [] = tt
  each_all all (x ∷ xs) = (all x, each_all all xs)

pub each_weaker : {A : Type 0} (P Q : A → Type 0) → ((x : A) → P x → Q x) → (xs : List A) → Each P xs → Each Q xs
each_weaker P Q w [] h = tt
each_weaker P Q w (x ∷ xs) h = (w x h.0, each_weaker P Q w xs h.1)

module _ {A B : Type 0} (P : A → Type 0) (Q : B → Type 0) (f : A → B) where
  pub each_map : ((x : A) → P x → Q (f x)) → (xs : List A) → Each P xs → Each Q (map f xs)
  each_map w [] h = tt
  each_map w (x ∷ xs) h = (w x h.0, each_map w xs h.1)

-- what holds of each of the choices
abbrev pub EachWay : {A : Type 0} → (A → Type 0) → Choices A → Type 0
EachWay P choices = Each P (listed choices)

module _ {A : Type 0} (P : A → Type 0) where
  pub each_then : (c d : Choices A) → EachWay P c → EachWay P d → EachWay P (Then c d)
  each_then c d a b = each_append P (listed c) (listed d) a b

  pub way_if : (b : Bool) (c d : Choices A) → (b ≡ true → EachWay P c) → (b ≡ false → EachWay P d) → EachWay P (if b then c else d)
  way_if true c d f g = f refl
  way_if false c d f g = g refl

  pub each_or : (c : Choices A) (a : A) → EachWay P c → P a → EachWay P (or_single c a)
  each_or c a ok other = way_if (counted c == 0) (Single a) c (λ _. (other, tt)) (λ _. ok)

  -- with the number of each
  pub each_by : (f : ℕ → A) (is : List ℕ) → ((k i : ℕ) → slice_get is k ≡ Some i → P (f i)) → EachWay P (by_each f is)
  each_by f [] h = tt
  each_by f (i ∷ is) h = (h 0 i refl, each_by f is (λ k j at. h (suc k) j at))

pub each_flat_map : {A B : Type 0} (P : A → Type 0) (Q : B → Type 0) (f : A → List B) → ((x : A) → P x → Each Q (f x)) → (xs : List A) → Each P xs → Each Q (flat_map f xs)
each_flat_map P Q f w [] h = tt
each_flat_map P Q f w (x ∷ xs) h = each_append Q (f x) (flat_map f xs) (w x h.0) (each_flat_map P Q f w xs h.1)
