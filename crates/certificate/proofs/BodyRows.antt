-- A row has some fact exactly where its method has one at that entry status.
use Rattle.std.proofs.Common.{◌≡◌, ℕ, zero, suc, ◌+◌, ◌^◌, ◌<◌, ◌≤◌, Bool, true, false, ltb, List, [], ◌∷◌, ◌++◌, length, map, refl, sym, ap, ◌∙◌, inl, inr, arith}
use Rattle.std.specs.Prelude.{◌||◌}
use Rattle.std.specs.List.{filter, list_any, range_with_len}
use Rattle.std.proofs.lemmas.List.FromFn.{map-range_with_len_more}
use Rattle.std.proofs.lemmas.Bool.{ltb-true, lt-ltb, cases_lt, cases_Bool, or_cases, or_left, or_right, cond-true, cond-false}
use Rattle.app_model.specs.Facts.{Fact, At, Ret, Exc}
use Rattle.app_model.specs.Masks.{in_mask}
use Rattle.app_model.specs.Subject.{SubjectParts, is_reached}
use Rattle.app_model.specs.Words.{code_len}
use Rattle.solution.specs.Facts.{Facts, place_count, HasPlaces}
use Rattle.solution.specs.Table.{row_len}
use Rattle.solution.specs.Words.{AreRows}
use Rattle.solution.proofs.Bits.{has_true}
use Rattle.cert_line.specs.Lines.{has_fact}
use Rattle.cert_line.specs.Parts.{BodyParts}
use Rattle.certificate.specs.Solved.{mask_of, body_row, masks_of, BodyFact, HasCode, HasRow}
use Rattle.certificate.proofs.Bits.{mask_is, some_status, status_counts}

abbrev is_some : ℕ → Bool
is_some m = ltb 0 m

any_there : (g : ℕ → ℕ) (a n : ℕ) → list_any is_some (map g (range_with_len a n)) ≡ true → (i : ℕ) × (i < a + n) × (0 < g i)
any_there g a zero h = absurd cc
any_there g a (suc n) h =
    elim (or_cases (is_some (g a)) (list_any is_some (map g (range_with_len (a + 1) n))) h) [
      | inl here ↦ (a, omega arith, ltb-true _ _ here)
      | inr later ↦ let t = any_there g (a + 1) n later in (t.0, omega (arith, t.1), t.2)
    ]

any_some : (g : ℕ → ℕ) (a n i : ℕ) → a ≤ i → i < a + n → 0 < g i → list_any is_some (map g (range_with_len a n)) ≡ true
any_some g a zero i le lt some = absurd (omega arith)
any_some g a (suc n) i le lt some =
    elim (cases_lt a i) [
      | inl less ↦ or_right (is_some (g a)) _ (any_some g (a + 1) n i (omega arith) (omega arith) some)
      | inr ge ↦ let is : i ≡ a = omega arith in or_left (is_some (g a)) _ (rw is at (lt-ltb 0 (g i) some))
    ]

-- ---- the rows that are written
pub has_room : (x : SubjectParts) (t : Facts) (m n : ℕ) → HasPlaces x t → is_reached x m ≡ true → m < length x.app.methods → n ≡ code_len x.app m → HasCode t m n
unfolding place_count
has_room x t m n places reached lt is =
    let len : row_len t.code m ≡ n = places.code m ∙ cond-true (is_reached x m) (code_len x.app m) 0 reached ∙ sym is in
    record { len = omega arith; ret = omega (arith, places.rets); exc = omega (arith, places.excs) }

pub more_masks : (set : Fact → Bool) (m n e r : ℕ) (old new : List ℕ) → r < 2 ^ 8 → ((s : ℕ) → in_mask r s ≡ set (At m e n s)) → old ≡ masks_of set m n e → new ≡ old ++ r ∷ [] → new ≡ masks_of set m (n + 1) e
more_masks set m n e r old new fits same is more =
    let at : 0 + n ≡ n = omega arith in
    more ∙ ap (λ (l : List ℕ). l ++ r ∷ []) is ∙ ap (λ (k : ℕ). masks_of set m n e ++ k ∷ []) (mask_is r (λ s. set (At m e n s)) fits same) ∙ sym (map-range_with_len_more (λ i. mask_of (λ s. set (At m e i s))) 0 n n at)

pub body_is : (set : Fact → Bool) (m n e r x : ℕ) (ms : List ℕ) → r < 2 ^ 8 → ((s : ℕ) → in_mask r s ≡ set (Ret m e s)) → x < 2 ^ 8 → ((s : ℕ) → in_mask x s ≡ set (Exc m e s)) → ms ≡ masks_of set m n e → (let b : BodyParts = record { method = m; entry = e; ret = r; exc = x; masks = ms } in b) ≡ body_row set m n e
body_is set m n e r x ms r_fits ret x_fits exc masks = rw (mask_is r (λ s. set (Ret m e s)) r_fits ret, mask_is x (λ s. set (Exc m e s)) x_fits exc, masks) refl

fact_there : (set : Fact → Bool) (m n e : ℕ) → has_fact (body_row set m n e) ≡ true → (s : ℕ) × BodyFact set m n e s
fact_there set m n e h =
    let ret = mask_of (λ s. set (Ret m e s)) in
    let exc = mask_of (λ s. set (Exc m e s)) in
    elim (or_cases (is_some ret || is_some exc) (list_any is_some (masks_of set m n e)) h) [
      | inl ends ↦ elim (or_cases (is_some ret) (is_some exc) ends) [
        | inl r ↦ let s = some_status (λ s. set (Ret m e s)) (ltb-true _ _ r) in (s.0, inl s.1)
        | inr x ↦ let s = some_status (λ s. set (Exc m e s)) (ltb-true _ _ x) in (s.0, inr (inl s.1))
      ]
      | inr at ↦
          let i = any_there (λ i. mask_of (λ s. set (At m e i s))) 0 n at in
          let s = some_status (λ s. set (At m e i.0 s)) i.2 in
          (s.0, inr (inr (i.0, omega (arith, i.1), s.1)))
    ]

pub fact_some : (set : Fact → Bool) (m n e s : ℕ) → s < 8 → BodyFact set m n e s → has_fact (body_row set m n e) ≡ true
fact_some set m n e s lt fact =
    let ret = mask_of (λ s. set (Ret m e s)) in
    let exc = mask_of (λ s. set (Exc m e s)) in
    elim fact [
      | inl r ↦ or_left (is_some ret || is_some exc) _ (or_left (is_some ret) _ (lt-ltb 0 ret (status_counts (λ s. set (Ret m e s)) s lt r)))
      | inr (inl x) ↦ or_left (is_some ret || is_some exc) _ (or_right (is_some ret) _ (lt-ltb 0 exc (status_counts (λ s. set (Exc m e s)) s lt x)))
      | inr (inr (i, in', h)) ↦
          or_right (is_some ret || is_some exc) _ (any_some (λ i. mask_of (λ s. set (At m e i s))) 0 n i (omega arith) (omega arith) (status_counts (λ s. set (At m e i s)) s lt h))
    ]

one_row : {X : Type 0} (p : X → Bool) (x : X) (b : Bool) → p x ≡ b → filter p (x ∷ []) ≡ filter (λ _. b) (x ∷ [])
one_row p x true e = cond-true (p x) (x ∷ []) [] e
one_row p x false e = cond-false (p x) (x ∷ []) [] e

pub row_kept : (set : Fact → Bool) (m n e w : ℕ) → e < 8 → AreRows (BodyFact set m n) 8 w → HasRow w e → filter has_fact (body_row set m n e ∷ []) ≡ body_row set m n e ∷ []
row_kept set m n e w lt rows (s, h) = one_row has_fact (body_row set m n e) true (fact_some set m n e s (has_true w e s h).1 (rows.only e s h))

pub row_left : (set : Fact → Bool) (m n e w : ℕ) → e < 8 → AreRows (BodyFact set m n) 8 w → (HasRow w e → ⊥) → filter has_fact (body_row set m n e ∷ []) ≡ []
row_left set m n e w lt rows none =
    elim (cases_Bool (has_fact (body_row set m n e))) [
      | inl some ↦ let f = fact_there set m n e some in absurd (none (f.0, rows.there e f.0 lt f.1))
      | inr none_there ↦ one_row has_fact (body_row set m n e) false none_there
    ]
