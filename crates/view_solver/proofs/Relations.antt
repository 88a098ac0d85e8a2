-- Words as relations: where edges enter, and what they carry.
use Rattle.std.proofs.Common.{◌≡◌, ℕ, ◌+◌, ◌*◌, ◌<◌, Bool, true, false, cond, eqb, List, [], ◌∷◌, Some, None, refl, sym, ap, ◌∙◌, subst, ⊎_elim, inl, inr, arith}
use Rattle.std.specs.Prelude.{not, nat_lt, ◌⊎◌, bit_or}
use Rattle.std.proofs.lemmas.Bool.{cases_Bool, cases_lt, ltb-true, eqb-true, eq-eqb, true≢false, false≢true}
use Rattle.app_model.specs.Components.{edge_at, callback_at}
use Rattle.app_model.specs.Facts.{Fact, View, Ret}
use Rattle.app_model.specs.Masks.{in_mask, any_below}
use Rattle.app_model.specs.Subject.{SubjectParts}
use Rattle.app_model.specs.declared.component.Edge.{Edge}
use Rattle.flow_model.specs.Derived.{HasAll}
use Rattle.flow_model.specs.Rules.{Carries, outside, by_method, entered, clears}
use Rattle.flow_model.specs.Status.{reset}
use Rattle.flow_model.proofs.TestLaws.{below_some}
use Rattle.solution.specs.Facts.{Facts, holds}
use Rattle.solution.specs.Words.{has, AreRows, Joined, Itself}
use Rattle.solution.proofs.Bits.{has_true, has_from, none_has}
use Rattle.solution.proofs.Ors.{or_bit, or_left, or_right}
use Rattle.view_solver.specs.Views.{EnteredBy, Carried, MovesBy, MovesBelow, Moves}

-- ---- a word that is the graph of a function
differs : Bool → Bool → Bool
differs true b = not b
differs false b = b

alike : (a b : Bool) → differs a b ≡ false → a ≡ b
unfolding differs
alike true true e = refl
alike true false e = absurd (true≢false e)
alike false true e = absurd (true≢false e)
alike false false e = refl

none_at : (f : ℕ → Bool) (n k : ℕ) → any_below f n ≡ false → k < n → f k ≡ false
none_at f n k none lt = ⊎_elim (λ yes. absurd (true≢false (sym (below_some f n k lt yes) ∙ none))) (λ off. off) (cases_Bool (f k))

-- some status of the first eight leads elsewhere
abbrev strays : (ℕ → ℕ) → ℕ → Bool
strays f w = any_below (λ s. any_below (λ t. differs (has w s t) (eqb t (f s))) 8) 8

graph_word : (f : ℕ → ℕ) (w : ℕ) → strays f w ≡ false → any_below (λ s. not (nat_lt (f s) 8)) 8 ≡ false → AreRows (λ s t. t ≡ f s) 8 w
graph_word f w right small =
    let test : (s t : ℕ) → s < 8 → t < 8 → has w s t ≡ eqb t (f s) = λ s t s8 t8. alike _ _ (none_at (λ t. differs (has w s t) (eqb t (f s))) 8 t (none_at (λ s. any_below (λ t. differs (has w s t) (eqb t (f s))) 8) 8 s right s8) t8) in
    let low : (s : ℕ) → s < 8 → f s < 8 = λ s s8. ⊎_elim (λ yes. ltb-true (f s) 8 yes) (λ off. absurd (false≢true (sym (none_at (λ s. not (nat_lt (f s) 8)) 8 s small s8) ∙ ap not off))) (cases_Bool (nat_lt (f s) 8)) in
    record {
      there = λ s t s8 is. test s t s8 (rw is (low s s8)) ∙ eq-eqb t (f s) is;
      only = λ s t h. (let p = has_true w s t h in eqb-true t (f s) (sym (test s t p.0 p.1) ∙ h));
    }

reset_word : AreRows (λ s t. t ≡ reset s) 8 0x8080018080800101
unfolding differs
reset_word = graph_word reset 0x8080018080800101 refl refl

same_word : AreRows (λ s t. t ≡ s) 8 0x8040201008040201
unfolding differs
same_word = graph_word (λ s. s) 0x8040201008040201 refl refl

module _ (x : SubjectParts) (l c : ℕ) (edge : Edge) where
  pub enter_reset : clears x c edge l ≡ true → AreRows (EnteredBy x l c edge) 8 0x8080018080800101
  enter_reset is = subst (λ (b : Bool). AreRows (λ s t. t ≡ cond b (reset s) s) 8 0x8080018080800101) (sym is) reset_word

  pub enter_same : clears x c edge l ≡ false → AreRows (EnteredBy x l c edge) 8 0x8040201008040201
  enter_same is = subst (λ (b : Bool). AreRows (λ s t. t ≡ cond b (reset s) s) 8 0x8040201008040201) (sym is) same_word

  -- ---- what an edge carries
  by_clearing : (s u : ℕ) {needs : List Fact} → Carries x l c edge s u needs → callback_at x.list c edge.callback ≡ None → u ≡ entered x l c edge s
  by_clearing s u (outside absent eq) none = eq
  by_clearing s u (by_method m is) none = absurd (cc)

  by_return : (t : Facts) (m s u : ℕ) {needs : List Fact} → Carries x l c edge s u needs → callback_at x.list c edge.callback ≡ Some m → HasAll (holds t) needs → holds t (Ret m (entered x l c edge s) u) ≡ true
  by_return t m s u (outside absent eq) is held = absurd (cc)
  by_return t m s u (by_method n there) is held = let eq : m ≡ n = cc in rw eq held.0

  pub carry_outside : (t : Facts) (w : ℕ) → callback_at x.list c edge.callback ≡ None → AreRows (EnteredBy x l c edge) 8 w → AreRows (Carried x l t c edge) 8 w
  carry_outside t w none en = record {
    there = λ s u s8 z. en.there s u s8 (by_clearing s u z.1 none);
    only = λ s u h. ([], outside none (en.only s u h), tt);
  }

  pub carry_method : (t : Facts) (m enter ret out : ℕ) → callback_at x.list c edge.callback ≡ Some m → AreRows (EnteredBy x l c edge) 8 enter → ((e s : ℕ) → has ret e s ≡ holds t (Ret m e s)) → AreRows (Joined enter ret) 8 out → AreRows (Carried x l t c edge) 8 out
  carry_method t m enter ret out is en rets o = record {
    there = λ s u s8 z. o.there s u s8 (entered x l c edge s, en.there s (entered x l c edge s) s8 refl, rets _ u ∙ by_return t m s u z.1 is z.2);
    only = λ s u h. (let z = o.only s u h in let v = en.only s z.0 z.1 in
        (Ret m (entered x l c edge s) u ∷ [], by_method m is, (ap (λ e. holds t (Ret m e u)) (sym v) ∙ sym (rets z.0 u) ∙ z.2, tt)));
  }

-- ---- moves of a component, an edge after another
rows_or : (P Q R : ℕ → ℕ → Type 0) (a b : ℕ) → ((s t : ℕ) → R s t → P s t ⊎ Q s t) → ((s t : ℕ) → P s t → R s t) → ((s t : ℕ) → Q s t → R s t) → AreRows P 8 a → AreRows Q 8 b → AreRows R 8 (bit_or a b)
rows_or P Q R a b split left right x y = record {
  there = λ s t s8 r. ⊎_elim
      (λ p. (let m = has_true a s t (x.there s t s8 p) in has_from _ s t m.0 m.1 (or_left a b (8 * s + t) m.2)))
      (λ q. (let m = has_true b s t (y.there s t s8 q) in has_from _ s t m.0 m.1 (or_right a b (8 * s + t) m.2)))
      (split s t r);
  only = λ s t h. (let m = has_true _ s t h in ⊎_elim
      (λ p. left s t (x.only s t (has_from a s t m.0 m.1 p)))
      (λ q. right s t (y.only s t (has_from b s t m.0 m.1 q)))
      (or_bit a b (8 * s + t) m.2));
}

rows_empty : (P : ℕ → ℕ → Type 0) → ((s t : ℕ) → P s t → ⊥) → AreRows P 8 0
rows_empty P none = record { there = λ s t s8 p. absurd (none s t p); only = λ s t h. absurd (none_has s t h) }

module _ (x : SubjectParts) (l : ℕ) (t : Facts) (d : ℕ) where
  pub moves_none : (e : ℕ) → edge_at x.list d e ≡ None → AreRows (MovesBy x l t d e) 8 0
  moves_none e none = rows_empty (MovesBy x l t d e) (λ s u z. absurd (let is = z.1 in cc))

  pub moves_one : (e seen own carry out : ℕ) (edge : Edge) → edge_at x.list d e ≡ Some edge → ((s : ℕ) → in_mask seen s ≡ holds t (View d edge.from s)) → AreRows (Itself seen) 8 own → AreRows (Carried x l t d edge) 8 carry → AreRows (Joined own carry) 8 out
      → AreRows (MovesBy x l t d e) 8 out
  moves_one e seen own carry out edge is view o k j = record {
    there = λ s u s8 z. (let eq : z.0 ≡ edge = (let at = z.1 in cc) in
        let v : holds t (View d edge.from s) ≡ true = subst (λ (g : Edge). holds t (View d g.from s) ≡ true) eq z.2 in
        let c : Carried x l t d edge s u = subst (λ (g : Edge). Carried x l t d g s u) eq z.3 in
        j.there s u s8 (s, o.there s s s8 (refl, view s ∙ v), k.there s u s8 c));
    only = λ s u h. (let z = j.only s u h in let own = o.only s z.0 z.1 in
        (edge, is, sym (view s) ∙ own.1, subst (λ n. Carried x l t d edge n u) own.0 (k.only z.0 u z.2)));
  }

  pub moves_start : AreRows (MovesBelow x l t d 0) 8 0
  moves_start = rows_empty (MovesBelow x l t d 0) (λ s u z. absurd (let lt = z.1 in omega arith))

  pub moves_more : (n a b : ℕ) → AreRows (MovesBelow x l t d n) 8 a → AreRows (MovesBy x l t d n) 8 b → AreRows (MovesBelow x l t d (n + 1)) 8 (bit_or a b)
  moves_more n a b = rows_or (MovesBelow x l t d n) (MovesBy x l t d n) (MovesBelow x l t d (n + 1)) a b
      (λ s u z. ⊎_elim (λ lt. inl (z.0, lt, z.2)) (λ le. inr (let same : z.0 ≡ n = (let lt = z.1 in omega arith) in subst (λ k. MovesBy x l t d k s u) same z.2)) (cases_lt z.0 n))
      (λ s u z. (z.0, (let lt = z.1 in omega arith), z.2))
      (λ s u z. (n, omega arith, z))

  pub moves_end : (n w : ℕ) → ((e : ℕ) (edge : Edge) → edge_at x.list d e ≡ Some edge → e < n) → AreRows (MovesBelow x l t d n) 8 w → AreRows (Moves x l t d) 8 w
  moves_end n w within r = record { there = λ s u s8 z. r.there s u s8 (z.0, within z.0 z.1.0 z.1.1, z.1); only = λ s u h. (let z = r.only s u h in (z.0, z.2)) }
