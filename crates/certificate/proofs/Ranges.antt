-- Rows of numbers in order, one more at a time.
use Rattle.std.proofs.Common.{◌≡◌, ℕ, zero, suc, ◌+◌, Bool, List, [], ◌∷◌, ◌++◌, map, sym, ap, ◌∙◌, append_assoc, arith}
use Rattle.std.specs.List.{filter, flat_map, range_with_len}
use Rattle.std.proofs.lemmas.List.{append-nil}
use Rattle.std.proofs.lemmas.List.FromFn.{filter_of_map_range_with_len_more}
use Rattle.certificate.specs.Solved.{numbers_below}

flat_last : {X : Type 0} (g : ℕ → List X) (n a : ℕ) → flat_map g (range_with_len a (suc n)) ≡ flat_map g (range_with_len a n) ++ g (a + n)
flat_last g zero a = let at : a ≡ a + 0 = omega arith in append-nil (g a) ∙ ap g at
flat_last g (suc n) a =
    let at : a + 1 + n ≡ a + suc n = omega arith in
    ap (λ (l : List _). g a ++ l) (flat_last g n (a + 1) ∙ ap (λ (k : ℕ). flat_map g (range_with_len (a + 1) n) ++ g k) at) ∙ sym (append_assoc (g a) (flat_map g (range_with_len (a + 1) n)) (g (a + suc n)))

flat_more : {X : Type 0} (g : ℕ → List X) (n : ℕ) → flat_map g (numbers_below (n + 1)) ≡ flat_map g (numbers_below n) ++ g n
flat_more g n =
    let last : n + 1 ≡ suc n = omega arith in
    let at : 0 + n ≡ n = omega arith in
    ap (λ (k : ℕ). flat_map g (numbers_below k)) last ∙ flat_last g n 0 ∙ ap (λ (k : ℕ). flat_map g (numbers_below n) ++ g k) at

pub one_more_group : {X : Type 0} (g : ℕ → List X) (n : ℕ) (old new : List X) → old ≡ flat_map g (numbers_below n) → new ≡ old ++ g n → new ≡ flat_map g (numbers_below (n + 1))
one_more_group g n old new is e = e ∙ ap (λ (l : List _). l ++ g n) is ∙ sym (flat_more g n)

pub one_more_row : {X : Type 0} (p : X → Bool) (f : ℕ → X) (n : ℕ) (first old new : List X) → old ≡ first ++ filter p (map f (numbers_below n)) → new ≡ old ++ filter p (f n ∷ []) → new ≡ first ++ filter p (map f (numbers_below (n + 1)))
one_more_row p f n first old new is e =
    e ∙ ap (λ (l : List _). l ++ filter p (f n ∷ [])) is ∙ append_assoc first (filter p (map f (numbers_below n))) (filter p (f n ∷ [])) ∙ ap (λ (l : List _). first ++ l) (sym (filter_of_map_range_with_len_more p f 0 n n (let at : 0 + n ≡ n = omega arith in at)))
