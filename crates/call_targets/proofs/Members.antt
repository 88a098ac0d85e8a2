-- What mapped and filtered lists have, and tests that go by that alone.
use Rattle.std.proofs.Common.{◌≡◌, ℕ, zero, suc, ◌<◌, ◌||◌, Bool, true, false, List, [], ◌∷◌, ◌++◌, length, map, refl, sym, ap, ap₂, ◌∙◌, inl, inr, ⊎_elim, arith, Contains, Option, Some, None, cond, eqb, eq-eqb, slice_get, subst}
use Rattle.std.specs.Prelude.{◌⊎◌, ◌↔◌, filter_map, is_none}
use Rattle.std.specs.List.{cons_option, filter, list_any, range_with_len}
use Rattle.std.specs.List.Sorted.{IsPermutation}
use Rattle.std.proofs.lemmas.List.{get_or-map, length-map}
use Rattle.std.proofs.lemmas.Bool.{eqb-true, false≢true}
use Rattle.std.proofs.lemmas.List.Elements.{filter_agree}
use Rattle.std.proofs.lemmas.List.FromFn.{get_or-range_with_len, length-range_with_len}
use Rattle.std.proofs.lemmas.List.Sorted.{list_any-IsPermutation}
use Rattle.std.proofs.lemmas.Option.{same_Some}
use Rattle.app_model.specs.CallGraph.{TargetParts}
use Rattle.app_model.specs.Targets.{finds, is_method, method_no, row_of}
use Rattle.class_graph.proofs.Lists.{any_found, any_there, same_test}

pub cons_cases : {X : Type 0} (y : X) (xs : List X) (x : X) → Contains (y ∷ xs) x → (y ≡ x) ⊎ Contains xs x
cons_cases y xs x (zero, lt, e) = inl e
cons_cases y xs x (suc k, lt, e) = inr (k, omega (arith, lt), e)

pub in_rest : {X : Type 0} (y : X) (xs : List X) (x : X) → Contains xs x → Contains (y ∷ xs) x
in_rest y xs x (k, lt, e) = (suc k, omega (arith, lt), e)

pub in_first : {X : Type 0} (x : X) (xs : List X) → Contains (x ∷ xs) x
in_first x xs = (0, omega arith, refl)

pub in_map : {X Y : Type 0} (f : X → Y) (xs : List X) (x : X) → Contains xs x → Contains (map f xs) (f x)
in_map f xs x (k, lt, e) = (k, omega (arith, lt, length-map xs f), get_or-map f xs k x (f x) lt ∙ ap f e)

pub from_map : {X Y : Type 0} (f : X → Y) (xs : List X) (y : Y) → Contains (map f xs) y → (x : X) × Contains xs x × (f x ≡ y)
from_map f [] y c = absurd (omega (arith, c.1))
from_map f (x ∷ xs) y c = ⊎_elim (λ e. (x, in_first x xs, e)) (λ r. let s = from_map f xs y r in (s.0, in_rest x xs s.0 s.1, s.2)) (cons_cases (f x) (map f xs) y c)

pub in_some : {X Y : Type 0} (f : X → Option Y) (xs : List X) (x : X) (y : Y) → Contains xs x → f x ≡ Some y → Contains (filter_map f xs) y
in_some f [] x y c e = absurd (omega (arith, c.1))
in_some {Y = Y} f (z ∷ xs) x y c e = ⊎_elim
    (λ same. rw same (rw e (in_first y (filter_map f xs))))
    (λ r. by (f z) (in_some f xs x y r e))
    (cons_cases z xs x c)
  where
    by : (o : Option Y) → Contains (filter_map f xs) y → Contains (cons_option o (filter_map f xs)) y
    by None r = r
    by (Some w) r = in_rest w (filter_map f xs) y r

pub from_some : {X Y : Type 0} (f : X → Option Y) (xs : List X) (y : Y) → Contains (filter_map f xs) y → (x : X) × Contains xs x × (f x ≡ Some y)
from_some f [] y c = absurd (omega (arith, c.1))
from_some {X = X} {Y = Y} f (x ∷ xs) y c = by (f x) refl (λ r. let s = from_some f xs y r in (s.0, in_rest x xs s.0 s.1, s.2)) c
  where
    by : (o : Option Y) → f x ≡ o → (Contains (filter_map f xs) y → (w : X) × Contains (x ∷ xs) w × (f w ≡ Some y)) → Contains (cons_option o (filter_map f xs)) y → (w : X) × Contains (x ∷ xs) w × (f w ≡ Some y)
    by None e later r = later r
    by (Some w) e later r = ⊎_elim (λ same. (x, in_first x xs, e ∙ ap Some same)) later (cons_cases w (filter_map f xs) y r)

pub in_filter : {X : Type 0} (p : X → Bool) (xs : List X) (x : X) → Contains xs x → p x ≡ true → Contains (filter p xs) x
in_filter p [] x c e = absurd (omega (arith, c.1))
in_filter p (y ∷ xs) x c e = ⊎_elim
    (λ same. rw same (rw e (in_first x (filter p xs))))
    (λ r. by (p y) (in_filter p xs x r e))
    (cons_cases y xs x c)
  where
    by : (b : Bool) → Contains (filter p xs) x → Contains (cond b (y ∷ filter p xs) (filter p xs)) x
    by true r = in_rest y (filter p xs) x r
    by false r = r

pub from_filter : {X : Type 0} (p : X → Bool) (xs : List X) (x : X) → Contains (filter p xs) x → Contains xs x × (p x ≡ true)
from_filter p [] x c = absurd (omega (arith, c.1))
from_filter p (y ∷ xs) x c = by (p y) refl (λ r. let s = from_filter p xs x r in (in_rest y xs x s.0, s.1)) c
  where
    by : (b : Bool) → p y ≡ b → (Contains (filter p xs) x → Contains (y ∷ xs) x × (p x ≡ true)) → Contains (cond b (y ∷ filter p xs) (filter p xs)) x → Contains (y ∷ xs) x × (p x ≡ true)
    by true e later r = ⊎_elim (λ same. rw (← same) (in_first y xs, e)) later (cons_cases y (filter p xs) x r)
    by false e later r = later r

pub any_mapped : {X Y : Type 0} (p : Y → Bool) (f : X → Y) (xs : List X) → list_any p (map f xs) ≡ list_any (λ x. p (f x)) xs
any_mapped p f [] = refl
any_mapped p f (x ∷ xs) = ap (λ b. p (f x) || b) (any_mapped p f xs)

pub is_nothing : {X : Type 0} (o : Option X) → is_none o ≡ true → o ≡ None
is_nothing None e = refl
is_nothing (Some x) e = absurd (false≢true e)

-- ---- the first n numbers
pub in_range : (n k : ℕ) → k < n → Contains (range_with_len 0 n) k
in_range n k lt = (k, omega (arith, lt, length-range_with_len 0 n), get_or-range_with_len 0 n k k lt ∙ omega arith)

pub from_range : (n k : ℕ) → Contains (range_with_len 0 n) k → k < n
from_range n k (i, lt, e) = let below : i < n = omega (arith, lt, length-range_with_len 0 n) in omega (arith, below, e, get_or-range_with_len 0 n i k below)

-- a list in another order
pub moved : (xs ys : List ℕ) → IsPermutation xs ys → (k : ℕ) → Contains xs k ↔ Contains ys k
moved xs ys perm k = (has xs ys (list_any-IsPermutation (eqb k) xs ys perm), has ys xs (sym (list_any-IsPermutation (eqb k) xs ys perm)))
  where
    has : (ms ns : List ℕ) → list_any (eqb k) ms ≡ list_any (eqb k) ns → Contains ms k → Contains ns k
    has ms ns e c = let f = any_found (eqb k) ns (sym e ∙ any_there (eqb k) ms k c (eq-eqb k k refl)) in subst (Contains ns) (sym (eqb-true k f.0 f.2)) f.1

-- ---- a list that grew by one
pub get_front : {X : Type 0} (xs : List X) (x : X) (s : ℕ) (y : X) → slice_get xs s ≡ Some y → slice_get (xs ++ x ∷ []) s ≡ Some y
get_front [] x s y e = absurd (cc)
get_front (z ∷ xs) x zero y e = e
get_front (z ∷ xs) x (suc s) y e = get_front xs x s y e

pub get_last : {X : Type 0} (xs : List X) (x : X) → slice_get (xs ++ x ∷ []) (length xs) ≡ Some x
get_last [] x = refl
get_last (y ∷ xs) x = get_last xs x

pub get_grown : {X : Type 0} (xs : List X) (x : X) (s : ℕ) (y : X) → slice_get (xs ++ x ∷ []) s ≡ Some y → (slice_get xs s ≡ Some y) ⊎ ((s ≡ length xs) × (x ≡ y))
get_grown [] x zero y e = inr (refl, same_Some x y e)
get_grown [] x (suc s) y e = absurd (cc)
get_grown (z ∷ xs) x zero y e = inl e
get_grown (z ∷ xs) x (suc s) y e = ⊎_elim (λ l. inl l) (λ r. inr (ap suc r.0, r.1)) (get_grown xs x s y e)

-- ---- rows of the same finds
is_that : (n : ℕ) (o : Option ℕ) → is_method n o ≡ true → o ≡ Some n
is_that n None e = absurd (false≢true e)
is_that n (Some k) e = ap Some (eqb-true k n e)

pub finds_in : (xs : List (Option ℕ)) (n : ℕ) → (finds xs n ≡ true) ↔ Contains xs (Some n)
finds_in xs n = (λ e. let f = any_found (is_method n) xs e in subst (Contains xs) (is_that n f.0 f.2) f.1, λ c. any_there (is_method n) xs (Some n) c (eq-eqb n n refl))

abbrev pub HaveSame : List (Option ℕ) → List (Option ℕ) → Type 0
HaveSame xs ys = (o : Option ℕ) → Contains xs o ↔ Contains ys o

any_same : (p : Option ℕ → Bool) (xs ys : List (Option ℕ)) → HaveSame xs ys → list_any p xs ≡ list_any p ys
any_same p xs ys h = same_test _ _
    (λ e. let f = any_found p xs e in any_there p ys f.0 ((h f.0).0 f.1) f.2)
    (λ e. let f = any_found p ys e in any_there p xs f.0 ((h f.0).1 f.1) f.2)

pub row_same : (n : ℕ) (xs ys : List (Option ℕ)) → HaveSame xs ys → row_of n xs ≡ row_of n ys
unfolding row_of
row_same n xs ys h =
    ap₂ (λ (ns : List ℕ) (b : Bool). let row : TargetParts = record { callees = map method_no ns; outside = b } in row)
    (filter_agree (finds xs) (finds ys) (λ k. any_same (is_method k) xs ys h) (range_with_len 0 n)) (any_same is_none xs ys h)
