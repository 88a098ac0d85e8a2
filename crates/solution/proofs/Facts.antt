-- What a word joined into a table does to the facts.
use Rattle.std.proofs.Common.{◌≡◌, ℕ, ◌+◌, ◌*◌, ◌<◌, Bool, true, length, get_or, [], refl, ap, ◌∙◌, inl, inr, ⊎_elim, arith}
use Rattle.std.specs.Prelude.{◌⊎◌}
use Rattle.std.proofs.lemmas.Bool.{cases_lt}
use Rattle.std.proofs.lemmas.List.{get_or_past}
use Rattle.app_model.specs.Facts.{Fact, View, At, Ret, Exc}
use Rattle.solution.specs.Words.{has, AreRows, IsOne}
use Rattle.solution.specs.Table.{Rows, word, row_len, Ors}
use Rattle.solution.specs.Facts.{Facts, holds, facts_room, Joins, Adds}
use Rattle.solution.proofs.Bits.{has_true, has_from, none_has}

-- statuses of a word
module _ (old : Rows) (t k w : ℕ) (new : Rows) (x : Bool) (o : Ors old t k w new x) where
  has_there : (e s : ℕ) → has w e s ≡ true → has (word new t k) e s ≡ true
  has_there e s h = let p = has_true w e s h in has_from _ e s p.0 p.1 (o.there (8 * e + s) p.2)

  has_kept : (n j e s : ℕ) → has (word old n j) e s ≡ true → has (word new n j) e s ≡ true
  has_kept n j e s h = let p = has_true _ e s h in has_from _ e s p.0 p.1 (o.kept n j (8 * e + s) p.2)

  has_only : (n j e s : ℕ) → has (word new n j) e s ≡ true → (has (word old n j) e s ≡ true) ⊎ ((n ≡ t) × (j ≡ k) × (has w e s ≡ true))
  has_only n j e s h =
      let p = has_true _ e s h in
      ⊎_elim (λ b. inl (has_from _ e s p.0 p.1 b)) (λ b. inr (b.0, b.1, has_from _ e s p.0 p.1 b.2)) (o.only n j (8 * e + s) p.2)

module _ (code ends : Rows) (m i w : ℕ) (new : Rows) (x : Bool) (o : Ors code m i w new x) where
  abbrev Old : Facts
  Old = record { code = code; ends = ends }

  abbrev New : Facts
  New = record { code = new; ends = ends }

  at_kept : (f : Fact) → holds Old f ≡ true → holds New f ≡ true
  unfolding holds
  at_kept (At m' e i' s) h = has_kept code m i w new x o m' i' e s h
  at_kept (Ret m' e s) h = h
  at_kept (Exc m' e s) h = h
  at_kept (View c q s) h = h

  at_only : (f : Fact) → holds New f ≡ true → (holds Old f ≡ true) ⊎ ((e : ℕ) × (s : ℕ) × (has w e s ≡ true) × (f ≡ At m e i s))
  unfolding holds
  at_only (At m' e i' s) h = ⊎_elim inl (λ z. inr (e, s, z.2, (let a = z.0 in let b = z.1 in cc))) (has_only code m i w new x o m' i' e s h)
  at_only (Ret m' e s) h = inl h
  at_only (Exc m' e s) h = inl h
  at_only (View c q s) h = inl h

  pub at_joins : Joins Old (λ e s. At m e i s) w New x
  unfolding holds facts_room
  at_joins = record {
    there = λ e s h. has_there code m i w new x o e s h;
    kept = at_kept;
    only = at_only;
    size = record { code = o.len; ends = λ k. refl };
    same = λ e. ap (λ (c : Rows). let t : Facts = record { code = c; ends = ends } in t) (o.same e);
    falls = λ e. let l = o.falls e in omega arith;
  }

module _ (code ends : Rows) (m w : ℕ) (new : Rows) (x : Bool) where
  abbrev Before : Facts
  Before = record { code = code; ends = ends }

  abbrev After : Facts
  After = record { code = code; ends = new }

  ends_kept : (k : ℕ) → Ors ends k m w new x → (f : Fact) → holds Before f ≡ true → holds After f ≡ true
  unfolding holds
  ends_kept k o (At m' e i' s) h = h
  ends_kept k o (Ret m' e s) h = has_kept ends k m w new x o 0 m' e s h
  ends_kept k o (Exc m' e s) h = has_kept ends k m w new x o 1 m' e s h
  ends_kept k o (View c q s) h = has_kept ends k m w new x o 2 c q s h

  ret_only : Ors ends 0 m w new x → (f : Fact) → holds After f ≡ true → (holds Before f ≡ true) ⊎ ((e : ℕ) × (s : ℕ) × (has w e s ≡ true) × (f ≡ Ret m e s))
  unfolding holds
  ret_only o (At m' e i' s) h = inl h
  ret_only o (Ret m' e s) h = ⊎_elim inl (λ z. inr (e, s, z.2, (let b = z.1 in cc))) (has_only ends 0 m w new x o 0 m' e s h)
  ret_only o (Exc m' e s) h = ⊎_elim inl (λ z. absurd (let b = z.0 in omega arith)) (has_only ends 0 m w new x o 1 m' e s h)
  ret_only o (View m' e s) h = ⊎_elim inl (λ z. absurd (let b = z.0 in omega arith)) (has_only ends 0 m w new x o 2 m' e s h)

  exc_only : Ors ends 1 m w new x → (f : Fact) → holds After f ≡ true → (holds Before f ≡ true) ⊎ ((e : ℕ) × (s : ℕ) × (has w e s ≡ true) × (f ≡ Exc m e s))
  unfolding holds
  exc_only o (At m' e i' s) h = inl h
  exc_only o (Ret m' e s) h = ⊎_elim inl (λ z. absurd (let b = z.0 in omega arith)) (has_only ends 1 m w new x o 0 m' e s h)
  exc_only o (Exc m' e s) h = ⊎_elim inl (λ z. inr (e, s, z.2, (let b = z.1 in cc))) (has_only ends 1 m w new x o 1 m' e s h)
  exc_only o (View m' e s) h = ⊎_elim inl (λ z. absurd (let b = z.0 in omega arith)) (has_only ends 1 m w new x o 2 m' e s h)

  view_only : Ors ends 2 m w new x → (f : Fact) → holds After f ≡ true → (holds Before f ≡ true) ⊎ ((e : ℕ) × (s : ℕ) × (has w e s ≡ true) × (f ≡ View m e s))
  unfolding holds
  view_only o (At m' e i' s) h = inl h
  view_only o (Ret m' e s) h = ⊎_elim inl (λ z. absurd (let b = z.0 in omega arith)) (has_only ends 2 m w new x o 0 m' e s h)
  view_only o (Exc m' e s) h = ⊎_elim inl (λ z. absurd (let b = z.0 in omega arith)) (has_only ends 2 m w new x o 1 m' e s h)
  view_only o (View m' e s) h = ⊎_elim inl (λ z. inr (e, s, z.2, (let b = z.1 in cc))) (has_only ends 2 m w new x o 2 m' e s h)

  ends_joins : (k : ℕ) (place : ℕ → ℕ → Fact) → Ors ends k m w new x
      → ((e s : ℕ) → has w e s ≡ true → holds After (place e s) ≡ true)
      → ((f : Fact) → holds After f ≡ true → (holds Before f ≡ true) ⊎ ((e : ℕ) × (s : ℕ) × (has w e s ≡ true) × (f ≡ place e s)))
      → Joins Before place w After x
  unfolding facts_room
  ends_joins k place o there only = record {
    there = there;
    kept = ends_kept k o;
    only = only;
    size = record { code = λ m. refl; ends = o.len };
    same = λ e. ap (λ (c : Rows). let t : Facts = record { code = code; ends = c } in t) (o.same e);
    falls = λ e. let l = o.falls e in omega arith;
  }

  pub ret_joins : Ors ends 0 m w new x → Joins Before (λ e s. Ret m e s) w After x
  unfolding holds
  ret_joins o = ends_joins 0 (λ e s. Ret m e s) o (λ e s h. has_there ends 0 m w new x o e s h) (ret_only o)

  pub exc_joins : Ors ends 1 m w new x → Joins Before (λ e s. Exc m e s) w After x
  unfolding holds
  exc_joins o = ends_joins 1 (λ e s. Exc m e s) o (λ e s h. has_there ends 1 m w new x o e s h) (exc_only o)

  pub view_joins : Ors ends 2 m w new x → Joins Before (λ e s. View m e s) w After x
  unfolding holds
  view_joins o = ends_joins 2 (λ e s. View m e s) o (λ e s h. has_there ends 2 m w new x o e s h) (view_only o)

-- a word of one fact
pub one_adds : (old new : Facts) (place : ℕ → ℕ → Fact) (e s w : ℕ) (x : Bool) → e < 8 → AreRows (IsOne e s) 8 w → Joins old place w new x → Adds old (place e s) new
one_adds old new place e s w x e8 o j = record {
  there = j.there e s (o.there e s e8 (refl, refl));
  kept = j.kept;
  only = λ f h. ⊎_elim inl (λ z. inr (let is = o.only z.0 z.1 z.2 in z.3 ∙ rw (is.0, is.1) refl)) (j.only f h);
  size = j.size;
}

-- a fact is of an instruction that has a place
pub at_place : (t : Facts) (m e i s : ℕ) → holds t (At m e i s) ≡ true → i < row_len t.code m
unfolding holds row_len word
at_place t m e i s h =
    ⊎_elim (λ l. l) (λ past. absurd (let z = get_or_past (get_or t.code m []) i 0 past in none_has e s (rw z at h))) (cases_lt i (length (get_or t.code m [])))

-- a view is of a component that has a place
pub view_place : (t : Facts) (c q s : ℕ) → holds t (View c q s) ≡ true → c < row_len t.ends 2
unfolding holds row_len word
view_place t c q s h =
    ⊎_elim (λ l. l) (λ past. absurd (let z = get_or_past (get_or t.ends 2 []) c 0 past in none_has q s (rw z at h))) (cases_lt c (length (get_or t.ends 2 [])))

-- words that were read
pub at_is : (t : Facts) (m i e s w : ℕ) → w ≡ word t.code m i → has w e s ≡ holds t (At m e i s)
unfolding holds
at_is t m i e s w is = ap (λ v. has v e s) is

pub ret_is : (t : Facts) (m e s w : ℕ) → w ≡ word t.ends 0 m → has w e s ≡ holds t (Ret m e s)
unfolding holds
ret_is t m e s w is = ap (λ v. has v e s) is

pub exc_is : (t : Facts) (m e s w : ℕ) → w ≡ word t.ends 1 m → has w e s ≡ holds t (Exc m e s)
unfolding holds
exc_is t m e s w is = ap (λ v. has v e s) is

pub view_is : (t : Facts) (c q s w : ℕ) → w ≡ word t.ends 2 c → has w q s ≡ holds t (View c q s)
unfolding holds
view_is t c q s w is = ap (λ v. has v q s) is
