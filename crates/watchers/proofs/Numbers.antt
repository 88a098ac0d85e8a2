-- What the numbers of watchers that were told less than all say of each of them.
use Rattle.std.proofs.Common.{◌≡◌, ◌≤◌, ◌<◌, ◌+◌, ◌++◌, ◌&&◌, nat_lt, ℕ, zero, suc, Bool, true, false, List, [], ◌∷◌, length, take, map, Option, Some, None, refl, sym, ap, ap₂, ◌∙◌, arith, length-append, length-set, slice_set, subst, ⊎_elim}
use Rattle.std.proofs.Math.Nat.{eq-or-lt_of_le}
use Rattle.std.proofs.Math.Numerals.{suc-eq-add-one}
use Rattle.std.proofs.lemmas.List.{length-take}
use Rattle.std.proofs.lemmas.Option.{slice_get-map, slice_get_within, same_Some}
use Rattle.std.specs.List.{slice_get}
use Rattle.std.specs.Option.{option_map}
use Rattle.ns_base.specs.declared.answers.Event.{Event}
use Rattle.watchers.specs.Telling.{Seen, IsTold, is_chosen, misses, misses_faultless, is_faultless, one_if, count_below, test_at}
use Rattle.ns_base.specs.Outside.{Rose}

one_more : (b : Bool) (count n : ℕ) → count ≤ n → count + one_if b ≤ suc n
one_more false count n below = omega arith
one_more true count n below = omega arith

-- a count is no more than the number of places
pub count_below-le : (f : ℕ → Bool) (n : ℕ) → count_below f n ≤ n
count_below-le f zero = omega arith
count_below-le f (suc n) = one_more (f n) (count_below f n) n (count_below-le f n)

-- tests that are the same below a number count the same
pub count_below-same : (f g : ℕ → Bool) (n : ℕ) → ((i : ℕ) → i < n → f i ≡ g i) → count_below f n ≡ count_below g n
count_below-same f g zero same = refl
count_below-same f g (suc n) same =
    ap₂ (λ (a b : ℕ). a + b) (count_below-same f g n (λ i below. same i (omega arith))) (ap one_if (same n (omega arith)))

slice_get-set : {A : Type 0} (xs : List A) (i : ℕ) (x : A) → i < length xs → slice_get (slice_set xs i x) i ≡ Some x
slice_get-set [] i x within = absurd (omega (arith, within))
slice_get-set (y ∷ ys) zero x within = refl
slice_get-set (y ∷ ys) (suc i) x within = slice_get-set ys i x (omega (arith, within))

slice_get-set_below : {A : Type 0} (xs : List A) (i j : ℕ) (x : A) → j < i → slice_get (slice_set xs i x) j ≡ slice_get xs j
slice_get-set_below [] i j x below = refl
slice_get-set_below (y ∷ ys) zero j x below = absurd (omega (arith, below))
slice_get-set_below (y ∷ ys) (suc i) zero x below = refl
slice_get-set_below (y ∷ ys) (suc i) (suc j) x below = slice_get-set_below ys i j x (omega (arith, below))

slice_get-set_above : {A : Type 0} (xs : List A) (i j : ℕ) (x : A) → i < j → slice_get (slice_set xs i x) j ≡ slice_get xs j
slice_get-set_above [] i j x above = refl
slice_get-set_above (y ∷ ys) i zero x above = absurd (omega (arith, above))
slice_get-set_above (y ∷ ys) zero (suc j) x above = refl
slice_get-set_above (y ∷ ys) (suc i) (suc j) x above = slice_get-set_above ys i j x (omega (arith, above))

-- the count of a test over one place more, when that place of the second list was written
pub count_below-set : {A : Type 0} (view : A → Seen) (test : Seen → Seen → Bool) (before now : List A) (i : ℕ) (old new : A) → i < length now → slice_get before i ≡ Some old
    → count_below (λ j. test_at test (slice_get (map view before) j) (slice_get (map view (slice_set now i new)) j)) (i + 1)
    ≡ count_below (λ j. test_at test (slice_get (map view before) j) (slice_get (map view now) j)) i + one_if (test (view old) (view new))
count_below-set view test before now i old new within here =
    let first : slice_get (map view before) i ≡ Some (view old) = slice_get-map view before i ∙ ap (option_map view) here in
    let second : slice_get (map view (slice_set now i new)) i ≡ Some (view new) = slice_get-map view (slice_set now i new) i ∙ ap (option_map view) (slice_get-set now i new within) in
    ap (count_below (λ j. test_at test (slice_get (map view before) j) (slice_get (map view (slice_set now i new)) j))) (sym (suc-eq-add-one i))
    ∙ ap₂ (λ (a b : ℕ). a + b)
    (count_below-same _ _ i (λ j below. ap (test_at test (slice_get (map view before) j)) (slice_get-map view (slice_set now i new) j ∙ ap (option_map view) (slice_get-set_below now i j new below) ∙ sym (slice_get-map view now j))))
    (ap one_if (ap₂ (test_at test) first second))

-- a watcher of the kinds that was told a part of the events misses some
pub misses-part : (kinds : List ℕ) (kind : ℕ) (all before now : List Event) → is_chosen kinds kind ≡ true → (n : ℕ) × (n < length all) × (now ≡ before ++ take n all)
    → one_if (is_chosen kinds kind && nat_lt (length now) (length before + length all)) ≡ 1
misses-part kinds kind all before now chosen part =
    let long : length now ≡ length before + length (take part.0 all) = ap length part.2 ∙ length-append before (take part.0 all) in
    let front : length (take part.0 all) ≤ part.0 = omega (arith, length-take part.0 all) in
    let within = part.1 in
    let short : nat_lt (length now) (length before + length all) ≡ true = grind arith in
    ap₂ (λ (a b : Bool). one_if (a && b)) chosen short

-- the watchers before place i were told, with so many answers of each kind, and those from it on are as at first
pub record Progress {A : Type 0} (view : A → Seen) (kinds : List ℕ) (all : List Event) (first now : List A) (place failures wants : ℕ) : Type 0 where
  pub len : length now ≡ length first
  pub rest : (j : ℕ) → place ≤ j → slice_get now j ≡ slice_get first j
  pub each : (j : ℕ) (old new : A) → j < place → slice_get first j ≡ Some old → slice_get now j ≡ Some new → IsTold kinds all (view old) (view new)
  pub others : (j : ℕ) (old new : A) → j < place → slice_get first j ≡ Some old → slice_get now j ≡ Some new → is_chosen kinds (view old).kind ≡ false → new ≡ old
  pub sum : failures + wants ≡ count_below (λ j. test_at (misses kinds all) (slice_get (map view first) j) (slice_get (map view now) j)) place
  pub starved : count_below (λ j. test_at (misses_faultless kinds all) (slice_get (map view first) j) (slice_get (map view now) j)) place ≤ wants

-- what holds of each place before i holds of the one more, when that place of the second list was written
told_more : {A : Type 0} (P : A → A → Type 0) (first now : List A) (i : ℕ) (old new : A) → i < length now → slice_get first i ≡ Some old → P old new
    → ((j : ℕ) (x y : A) → j < i → slice_get first j ≡ Some x → slice_get now j ≡ Some y → P x y)
    → (j : ℕ) (x y : A) → j < i + 1 → slice_get first j ≡ Some x → slice_get (slice_set now i new) j ≡ Some y → P x y
told_more P first now i old new within here is before j x y below at_first at_now =
    ⊎_elim
    (λ (same : j ≡ i).
    let a : old ≡ x = same_Some old x (sym here ∙ ap (slice_get first) (sym same) ∙ at_first) in
    let b : new ≡ y = same_Some new y (sym (slice_get-set now i new within) ∙ ap (slice_get (slice_set now i new)) (sym same) ∙ at_now) in
    subst (λ v. P v y) a (subst (λ v. P old v) b is))
    (λ (less : j < i). before j x y less at_first (sym (slice_get-set_below now i j new less) ∙ at_now))
    (eq-or-lt_of_le (omega (arith, below)))

pub Progress-step : {A : Type 0} (view : A → Seen) (kinds : List ℕ) (all : List Event) (first now : List A) (i failures wants failed starved : ℕ) (old new : A)
    → slice_get now i ≡ Some old
    → Progress view kinds all first now i failures wants
    → IsTold kinds all (view old) (view new)
    → (is_chosen kinds (view old).kind ≡ false → new ≡ old)
    → failed + starved ≡ one_if (misses kinds all (view old) (view new))
    → one_if (misses_faultless kinds all (view old) (view new)) ≤ starved
    → Progress view kinds all first (slice_set now i new) (i + 1) (failures + failed) (wants + starved)
Progress-step view kinds all first now i failures wants failed starved old new here so_far told other sum want =
    let within : i < length now = slice_get_within now i old here in
    let at_first : slice_get first i ≡ Some old = sym (so_far.rest i (omega arith)) ∙ here in
    let more = λ (test : Seen → Seen → Bool). count_below-set view test first now i old new within at_first in
    record {
      len = length-set now i new ∙ so_far.len;
      rest = λ j past. slice_get-set_above now i j new (omega (arith, past)) ∙ so_far.rest j (omega (arith, past));
      each = told_more (λ x y. IsTold kinds all (view x) (view y)) first now i old new within at_first told so_far.each;
      others = told_more (λ x y. (is_chosen kinds (view x).kind ≡ false → y ≡ x)) first now i old new within at_first other so_far.others;
      sum = omega (arith, so_far.sum, sum) ∙ sym (more (misses kinds all));
      starved = omega (arith, so_far.starved, want, more (misses_faultless kinds all));
    }

pub Progress-le : {A : Type 0} {view : A → Seen} {kinds : List ℕ} {all : List Event} {first now : List A} {i failures wants : ℕ} → Progress view kinds all first now i failures wants → failures + wants ≤ i
Progress-le {view = view} {kinds = kinds} {all = all} {first = first} {now = now} {i = i} so_far =
    let most = count_below-le (λ j. test_at (misses kinds all) (slice_get (map view first) j) (slice_get (map view now) j)) i in
    omega (arith, so_far.sum, most)

none_if : (b : Bool) → one_if b ≡ 0 → b ≡ false
none_if false none = refl
none_if true none = absurd (omega (arith, none))

-- where a count is zero, the test holds nowhere
count_below-zero : (f : ℕ → Bool) (n i : ℕ) → count_below f n ≡ 0 → i < n → f i ≡ false
count_below-zero f zero i none below = absurd (omega (arith, below))
count_below-zero f (suc n) i none below =
    ⊎_elim
    (λ (same : i ≡ n). ap f same ∙ none_if (f n) (omega (arith, none)))
    (λ (less : i < n). count_below-zero f n i (omega (arith, none)) less)
    (eq-or-lt_of_le (omega (arith, below)))

fewer_more : (f g : ℕ → Bool) (n : ℕ) (a b : Bool) → f n ≡ a → g n ≡ b → count_below f n + one_if a < count_below g n + one_if b
    → (count_below f n < count_below g n → (i : ℕ) × (f i ≡ false) × (g i ≡ true))
    → (i : ℕ) × (f i ≡ false) × (g i ≡ true)
fewer_more f g n false true f_is g_is fewer rest = (n, f_is, g_is)
fewer_more f g n false false f_is g_is fewer rest = rest (omega (arith, fewer))
fewer_more f g n true false f_is g_is fewer rest = rest (omega (arith, fewer))
fewer_more f g n true true f_is g_is fewer rest = rest (omega (arith, fewer))

-- where one test holds at fewer places than another, there is a place at which the other alone holds
count_below-fewer : (f g : ℕ → Bool) (n : ℕ) → count_below f n < count_below g n → (i : ℕ) × (f i ≡ false) × (g i ≡ true)
count_below-fewer f g zero fewer = absurd (omega (arith, fewer))
count_below-fewer f g (suc n) fewer = fewer_more f g n (f n) (g n) refl refl fewer (count_below-fewer f g n)

test_at-some : {A : Type 0} (view : A → Seen) (test : Seen → Seen → Bool) (xs ys : List A) (i : ℕ) (x y : A) → slice_get xs i ≡ Some x → slice_get ys i ≡ Some y
    → test_at test (slice_get (map view xs) i) (slice_get (map view ys) i) ≡ test (view x) (view y)
test_at-some view test xs ys i x y at_x at_y =
    ap₂ (test_at test) (slice_get-map view xs i ∙ ap (option_map view) at_x) (slice_get-map view ys i ∙ ap (option_map view) at_y)

test_at-holds : {A : Type 0} (view : A → Seen) (test : Seen → Seen → Bool) (x y : Option A) → test_at test (option_map view x) (option_map view y) ≡ true
    → (old : A) × (new : A) × (x ≡ Some old) × (y ≡ Some new)
test_at-holds view test None y holds = absurd cc
test_at-holds view test (Some old) None holds = absurd cc
test_at-holds view test (Some old) (Some new) holds = (old, new, refl, refl)

not_both : (a b : Bool) → (a && b) ≡ false → a ≡ true → b ≡ false
not_both true b neither first = neither
not_both false b neither first = absurd cc

not_three : (a b c : Bool) → (a && b && c) ≡ false → a ≡ true → c ≡ true → b ≡ false
not_three true true true none first also = none
not_three true false c none first also = refl
not_three false b c none first also = absurd cc
not_three true true false none first also = absurd cc

both_first : (a b : Bool) → (a && b) ≡ true → a ≡ true
both_first true b both = refl
both_first false b both = both

is_faultless-rose : (before now : Seen) → is_faultless before now ≡ false → Rose before.faults now.faults
is_faultless-rose before now not_less = grind arith

is_faultless-not_rose : (before now : Seen) → (Rose before.faults now.faults → ⊥) → is_faultless before now ≡ true
is_faultless-not_rose before now calm = grind arith

pub Progress-whole : {A : Type 0} (view : A → Seen) (kinds : List ℕ) (all : List Event) (first now : List A) (n failures wants : ℕ) → Progress view kinds all first now n failures wants
    → failures ≡ 0 → wants ≡ 0 → (i : ℕ) (old new : A) → i < n → slice_get first i ≡ Some old → slice_get now i ≡ Some new
    → is_chosen kinds (view old).kind ≡ true → (view new).told ≡ (view old).told ++ all
Progress-whole view kinds all first now n failures wants so_far no_failure no_want i old new below at_first at_now chosen =
    let none : count_below (λ j. test_at (misses kinds all) (slice_get (map view first) j) (slice_get (map view now) j)) n ≡ 0 = omega (arith, so_far.sum, no_failure, no_want) in
    let here = sym (test_at-some view (misses kinds all) first now i old new at_first at_now) ∙ count_below-zero _ n i none below in
    (so_far.each i old new below at_first at_now).whole chosen (not_both _ _ here chosen)

pub Progress-faultless : {A : Type 0} (view : A → Seen) (kinds : List ℕ) (all : List Event) (first now : List A) (n failures wants : ℕ) → Progress view kinds all first now n failures wants
    → wants ≡ 0 → (i : ℕ) (old new : A) → i < n → slice_get first i ≡ Some old → slice_get now i ≡ Some new
    → is_chosen kinds (view old).kind ≡ true → (Rose (view old).faults (view new).faults → ⊥) → (view new).told ≡ (view old).told ++ all
Progress-faultless view kinds all first now n failures wants so_far no_want i old new below at_first at_now chosen calm =
    let none : count_below (λ j. test_at (misses_faultless kinds all) (slice_get (map view first) j) (slice_get (map view now) j)) n ≡ 0 = omega (arith, so_far.starved, no_want) in
    let here = sym (test_at-some view (misses_faultless kinds all) first now i old new at_first at_now) ∙ count_below-zero _ n i none below in
    let faultless = is_faultless-not_rose (view old) (view new) calm in
    (so_far.each i old new below at_first at_now).whole chosen (not_three (is_chosen kinds (view old).kind) _ _ here chosen faultless)

pub Progress-cause : {A : Type 0} (view : A → Seen) (kinds : List ℕ) (all : List Event) (first now : List A) (n failures wants : ℕ) → Progress view kinds all first now n failures wants
    → 0 < failures → (i : ℕ) × (old : A) × (new : A) × (slice_get first i ≡ Some old) × (slice_get now i ≡ Some new)
    × (is_chosen kinds (view old).kind ≡ true) × Rose (view old).faults (view new).faults
Progress-cause view kinds all first now n failures wants so_far some =
    let found = count_below-fewer (λ j. test_at (misses_faultless kinds all) (slice_get (map view first) j) (slice_get (map view now) j)) (λ j. test_at (misses kinds all) (slice_get (map view first) j) (slice_get (map view now) j)) n (omega (arith, so_far.sum, so_far.starved, some)) in
    let i = found.0 in
    let both = test_at-holds view (misses kinds all) (slice_get first i) (slice_get now i) (ap₂ (test_at (misses kinds all)) (sym (slice_get-map view first i)) (sym (slice_get-map view now i)) ∙ found.2) in
    let old = both.0 in
    let new = both.1 in
    let missed : misses kinds all (view old) (view new) ≡ true = sym (test_at-some view (misses kinds all) first now i old new both.2 both.3) ∙ found.2 in
    let rest : misses_faultless kinds all (view old) (view new) ≡ false = sym (test_at-some view (misses_faultless kinds all) first now i old new both.2 both.3) ∙ found.1 in
    (i, old, new, both.2, both.3, both_first _ _ missed, is_faultless-rose (view old) (view new) (not_both _ _ rest missed))
