-- Tables and solutions without facts.
use Rattle.std.proofs.Common.{◌≡◌, ℕ, ◌+◌, List, [], ◌∷◌, ◌++◌, false, cond, length, get_or, replicate, refl, sym, ap, ◌∙◌, ⊎_elim, arith}
use Rattle.std.proofs.lemmas.Bool.{cases_lt, cases_Bool}
use Rattle.std.proofs.lemmas.List.{get_or_past, length-append, get_or_append_left, get_or-replicate, length-replicate}
use Rattle.std.proofs.Math.Seq.{get_or-append_seam}
use Rattle.app_model.specs.Facts.{Fact, View, At, Ret, Exc}
use Rattle.app_model.specs.Subject.{SubjectParts, is_reached}
use Rattle.app_model.specs.Words.{code_len}
use Rattle.solution.specs.Words.{has}
use Rattle.solution.specs.Table.{Rows, word, row_len}
use Rattle.solution.specs.Facts.{Facts, holds, place_count, HasPlaces}
use Rattle.solution.specs.Starts.{AreEmpty}
use Rattle.solution.proofs.Bits.{none_has}

pub empty_none : (len : ℕ → ℕ) → AreEmpty len 0 []
empty_none len = record { count = refl; each = λ m lt. absurd (omega arith) }

pub empty_more : (len : ℕ → ℕ) (n k : ℕ) (rows : Rows) → k ≡ len n → AreEmpty len n rows → AreEmpty len (n + 1) (rows ++ (replicate k 0 ∷ []))
empty_more len n k rows is e = record {
  count = length-append rows (replicate k 0 ∷ []) ∙ ap (λ a. a + 1) e.count;
  each = λ m lt. ⊎_elim
      (λ less. get_or_append_left rows (replicate k 0 ∷ []) [] m (let c = e.count in omega arith) ∙ e.each m less)
      (λ le. (let at : m ≡ length rows = (let c = e.count in omega arith) in let same : m ≡ n = omega arith in
      ap (λ i. get_or (rows ++ (replicate k 0 ∷ [])) i []) at ∙ get_or-append_seam rows (replicate k 0) [] [] ∙ ap (λ a. replicate a 0) (is ∙ ap len (sym same))))
      (cases_lt m n);
}

-- no word has a fact
zero_at : (row : List ℕ) (n i : ℕ) → row ≡ replicate n 0 → get_or row i 0 ≡ 0
zero_at row n i is = rw is (⊎_elim (λ lt. get_or-replicate n i 0 0 lt) (λ past. get_or_past (replicate n 0) i 0 (rw (length-replicate {A = ℕ} n 0) past)) (cases_lt i n))

nothing : (w e s : ℕ) → w ≡ 0 → has w e s ≡ false
nothing w e s is = ⊎_elim (λ yes. absurd (none_has e s (rw is at yes))) (λ off. off) (cases_Bool (has w e s))

module _ (x : SubjectParts) (methods : length x.reached ≡ length x.app.methods) (code : Rows) (empty : AreEmpty (place_count x) (length x.app.methods) code) where
  row_is : (m : ℕ) → get_or code m [] ≡ replicate (place_count x m) 0
  unfolding place_count is_reached
  row_is m = ⊎_elim (empty.each m) (λ past. get_or_past code m [] (let c = empty.count in omega arith) ∙ ap (λ b. replicate (cond b (code_len x.app m) 0) 0) (sym (get_or_past x.reached m false (omega (arith, methods))))) (cases_lt m (length x.app.methods))

  abbrev pub Started : Rows → Facts
  Started ends = record { code = code; ends = ends }

  abbrev pub ends_of : Rows
  ends_of = replicate (length x.app.methods) 0 ∷ replicate (length x.app.methods) 0 ∷ replicate (length x.list) 0 ∷ []

  has_places : HasPlaces x (Started ends_of)
  unfolding row_len
  has_places = record {
    code = λ m. ap length (row_is m) ∙ length-replicate {A = ℕ} (place_count x m) 0;
    rets = length-replicate {A = ℕ} (length x.app.methods) 0;
    excs = length-replicate {A = ℕ} (length x.app.methods) 0;
    views = length-replicate {A = ℕ} (length x.list) 0;
  }

  no_facts : (f : Fact) → holds (Started ends_of) f ≡ false
  unfolding holds word
  no_facts (At m e i s) = nothing _ e s (zero_at (get_or code m []) (place_count x m) i (row_is m))
  no_facts (Ret m e s) = nothing _ e s (zero_at (replicate (length x.app.methods) 0) (length x.app.methods) m refl)
  no_facts (Exc m e s) = nothing _ e s (zero_at (replicate (length x.app.methods) 0) (length x.app.methods) m refl)
  no_facts (View c q s) = nothing _ q s (zero_at (replicate (length x.list) 0) (length x.list) c refl)

  module _ (ends : Rows) (n k : ℕ) (is : ends ≡ (replicate n 0 ∷ replicate n 0 ∷ replicate k 0 ∷ [])) (n_is : n ≡ length x.app.methods) (k_is : k ≡ length x.list) where
    pub places_start : HasPlaces x (Started ends)
    places_start = rw (is, n_is, k_is) has_places

    pub facts_start : (f : Fact) → holds (Started ends) f ≡ false
    facts_start = rw (is, n_is, k_is) no_facts
