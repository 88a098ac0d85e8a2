-- The number of choices, and each of them, are those of the list.
use Rattle.std.proofs.Common.{◌≡◌, ◌≢◌, ℕ, zero, suc, ◌+◌, ◌-◌, ◌*◌, ◌/◌, ◌%◌, ◌<◌, ◌≤◌, ◌==◌, Bool, true, false, if◌then◌else◌, List, [], ◌∷◌, ◌++◌, length, map, get_or, slice_get, Option, Some, None, option_map, refl, sym, ap, ap₂, ◌∙◌, add-one, arith, subst, ⊎_elim, length-append, flat_map}
use Rattle.std.specs.Prelude.{nat_lt}
use Rattle.std.proofs.lemmas.Bool.{cases_lt, eqb-false, ne_eqb}
use Rattle.std.proofs.lemmas.Bool.Decides.{nat_tests}
use Rattle.std.proofs.lemmas.List.{length-map}
use Rattle.std.proofs.lemmas.Option.{slice_get-get_or, slice_get-map, slice_get_past}
use Rattle.std.proofs.Math.Nat.{div-eq_of_lt, div-eq-sub-div, mod-eq_of_lt, mod-eq-sub-mod, mod-lt, mul-zero, suc-mul, zero-mul}
use Rattle.app_model.specs.Subject.{SubjectParts}
use Rattle.run_model.specs.Heaps.{Value, Zero}
use Rattle.run_model.specs.Choices.{Choices, Empty, Single, Then, ForEach, ForEvery, chosen, chosen_at, counted, listed, or_single, picked, ways}
use Rattle.run_model.specs.Frames.{State, Idle, Running, AtEnd, Over, Stuck, here_of}
use Rattle.run_model.specs.Machine.{act_options, choices_of, count_of, option_at, options_of, starts, step}
use Rattle.act_model.specs.Acts.{act_at}

-- ---- lists that follow each other
get_first : {X : Type 0} (xs ys : List X) (k : ℕ) → k < length xs → slice_get (xs ++ ys) k ≡ slice_get xs k
get_first [] ys k lt = absurd (omega (arith, lt))
get_first (x ∷ xs) ys zero lt = refl
get_first (x ∷ xs) ys (suc k) lt = get_first xs ys k (omega (arith, lt))

get_later : {X : Type 0} (xs ys : List X) (k : ℕ) → length xs ≤ k → slice_get (xs ++ ys) k ≡ slice_get ys (k - length xs)
get_later [] ys k le = let same : k ≡ k - 0 = omega arith in ap (slice_get ys) same
get_later (x ∷ xs) ys zero le = absurd (omega (arith, le))
get_later (x ∷ xs) ys (suc k) le = get_later xs ys k (omega (arith, le)) ∙ (let same : k - length xs ≡ suc k - suc (length xs) = omega arith in ap (slice_get ys) same)

-- a test on numbers, by what it says
by_test : {X : Type 0} (k n : ℕ) (o a b : Option X) → (k < n → o ≡ a) → (n ≤ k → o ≡ b) → o ≡ (if nat_lt k n then a else b)
by_test k n o a b within past = by (nat_lt k n) refl
  where
    by : (t : Bool) → nat_lt k n ≡ t → o ≡ (if t then a else b)
    by true is = within (grind (arith, nat_tests, is))
    by false is = past (grind (arith, nat_tests, is))

-- ---- the ways to choose a value of each word
-- v, and then what the other words are
abbrev begun : List (List Value) → Value → List (List Value)
begun rest v = map (λ vs. v ∷ vs) rest

begun_length : (rest : List (List Value)) (n : ℕ) → length rest ≡ n → (word : List Value) → length (flat_map (begun rest) word) ≡ length word * n
begun_length rest n same [] = sym (zero-mul n)
begun_length rest n same (v ∷ vs) =
    length-append (begun rest v) (flat_map (begun rest) vs) ∙ ap₂ (λ a b. a + b) (length-map rest (λ ws. v ∷ ws) ∙ same) (begun_length rest n same vs)
    ∙ (let e : n + length vs * n ≡ suc (length vs) * n = omega (arith, suc-mul (length vs) n) in e)

pub length-chosen : (words : List (List Value)) → length (chosen words) ≡ ways words
length-chosen [] = refl
length-chosen (word ∷ words) = begun_length (chosen words) (ways words) (length-chosen words) word

-- number k begins with value k / n of the word, where the others have n ways
begun_get : (rest : List (List Value)) (n : ℕ) (at : ℕ → List Value) → length rest ≡ n → ((j : ℕ) → j < n → slice_get rest j ≡ Some (at j))
    → (word : List Value) (k : ℕ) → k < length word * n → slice_get (flat_map (begun rest) word) k ≡ Some (get_or word (k / n) Zero ∷ at (k % n))
begun_get rest n at same others [] k lt = absurd (omega (arith, lt, zero-mul n))
begun_get rest n at same others (v ∷ vs) k lt = ⊎_elim here (later (λ le. begun_get rest n at same others vs (k - n) (omega (arith, lt, le, suc-mul (length vs) n)))) (cases_lt k n)
  where
    len : length (begun rest v) ≡ n
    len = length-map rest (λ ws. v ∷ ws) ∙ same

    here : k < n → slice_get (begun rest v ++ flat_map (begun rest) vs) k ≡ Some (get_or (v ∷ vs) (k / n) Zero ∷ at (k % n))
    here low =
        get_first (begun rest v) (flat_map (begun rest) vs) k (omega (arith, low, len)) ∙ slice_get-map (λ ws. v ∷ ws) rest k ∙ ap (option_map (λ ws. v ∷ ws)) (others k low)
        ∙ rw (div-eq_of_lt low, mod-eq_of_lt low) refl

    some : n ≤ k → 0 < n
    some le = ⊎_elim (λ low. low) (λ none. let z : n ≡ 0 = omega (arith, none) in absurd (omega (arith, subst (λ m. k < suc (length vs) * m) z lt, mul-zero (suc (length vs))))) (cases_lt 0 n)

    later : (n ≤ k → slice_get (flat_map (begun rest) vs) (k - n) ≡ Some (get_or vs ((k - n) / n) Zero ∷ at ((k - n) % n)))
        → n ≤ k → slice_get (begun rest v ++ flat_map (begun rest) vs) k ≡ Some (get_or (v ∷ vs) (k / n) Zero ∷ at (k % n))
    later rest_ok le =
        get_later (begun rest v) (flat_map (begun rest) vs) k (omega (arith, le, len)) ∙ ap (λ m. slice_get (flat_map (begun rest) vs) (k - m)) len ∙ rest_ok le
        ∙ rw (div-eq-sub-div (some le) le, mod-eq-sub-mod le, add-one ((k - n) / n)) refl

pub chosen_get : (words : List (List Value)) (k : ℕ) → k < ways words → slice_get (chosen words) k ≡ Some (chosen_at words k)
chosen_get [] k lt = let z : k ≡ 0 = omega (arith, lt) in rw z refl
chosen_get (word ∷ words) k lt = begun_get (chosen words) (ways words) (chosen_at words) (length-chosen words) (chosen_get words) word k lt

-- ---- all choices
pub length-listed : {A : Type 0} (c : Choices A) → length (listed c) ≡ counted c
length-listed Empty = refl
length-listed (Single a) = refl
length-listed (Then first others) = length-append (listed first) (listed others) ∙ ap₂ (λ m n. m + n) (length-listed first) (length-listed others)
length-listed (ForEach values f) = length-map values f
length-listed (ForEvery words f) = length-map (chosen words) f ∙ length-chosen words

pub picked_is : {A : Type 0} (c : Choices A) (k : ℕ) → slice_get (listed c) k ≡ picked c k
picked_is Empty k = refl
picked_is (Single a) zero = refl
picked_is (Single a) (suc k) = rw (ne_eqb (suc k) 0 (λ e. omega (arith, e))) refl
picked_is (Then first others) k =
    by_test k (counted first) (slice_get (listed first ++ listed others) k) (picked first k) (picked others (k - counted first))
    (λ lt. get_first (listed first) (listed others) k (omega (arith, lt, length-listed first)) ∙ picked_is first k)
    (λ le. get_later (listed first) (listed others) k (omega (arith, le, length-listed first)) ∙ ap (λ n. slice_get (listed others) (k - n)) (length-listed first) ∙ picked_is others (k - counted first))
picked_is (ForEach values f) k = slice_get-map f values k
picked_is (ForEvery words f) k =
    by_test k (ways words) (slice_get (map f (chosen words)) k) (Some (f (chosen_at words k))) None
    (λ lt. slice_get-map f (chosen words) k ∙ ap (option_map f) (chosen_get words k lt))
    (λ le. slice_get_past (map f (chosen words)) k (omega (arith, le, length-map (chosen words) f, length-chosen words)))

-- ---- there is always one
not_none : {A : Type 0} (c : Choices A) (a : A) → counted (or_single c a) ≢ 0
not_none c a = by (counted c == 0) refl
  where
    by : (b : Bool) → (counted c == 0) ≡ b → counted (if b then Single a else c) ≢ 0
    by true is = λ e. omega (arith, e)
    by false is = eqb-false (counted c) 0 is

choices_some : (x : SubjectParts) (s : State) → counted (choices_of x s) ≢ 0
choices_some x (Idle states h) = not_none (starts x states h) (Idle states h)
choices_some x (Running at h []) = λ e. omega (arith, e)
choices_some x (Running at h (f ∷ rest)) = not_none (act_options (here_of x at h f rest) (act_at x.app f.method f.index)) (Over Stuck)
choices_some x (AtEnd at h) = λ e. omega (arith, e)
choices_some x (Over why) = λ e. omega (arith, e)

pub options_some : (x : SubjectParts) (s : State) → options_of x s ≢ []
options_some x s empty = choices_some x s (sym (length-listed (choices_of x s)) ∙ ap length empty)

-- a step takes the option of its number, modulo how many there are
pub step_taken : (x : SubjectParts) (k : ℕ) (s : State) → option_at x s (k % count_of x s) ≡ Some (step x k s)
step_taken x k s =
    let len = length-listed (choices_of x s) in
    let within : k % count_of x s < count_of x s = mod-lt k (omega (arith, choices_some x s)) in
    sym (picked_is (choices_of x s) (k % count_of x s)) ∙ slice_get-get_or (options_of x s) (k % count_of x s) s (omega (arith, within, len))
    ∙ ap (λ n. Some (get_or (options_of x s) (k % n) s)) (sym len)
