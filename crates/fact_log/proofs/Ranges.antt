-- Facts that hold have places.
use Rattle.std.proofs.Common.{◌≡◌, ℕ, ◌<◌, ◌≤◌, Bool, true, false, [], length, cond, sym, ap, ◌∙◌, ⊎_elim, arith}
use Rattle.std.specs.Prelude.{◌↔◌, IsTrue, slice_index_or}
use Rattle.std.proofs.lemmas.Bool.{cases_lt, cases_Bool, false≢true}
use Rattle.std.proofs.lemmas.List.{get_or_past}
use Rattle.app_model.specs.Facts.{Fact, View, At, Ret, Exc}
use Rattle.app_model.specs.Subject.{SubjectParts, IsSubject, is_reached}
use Rattle.app_model.specs.Words.{code_len}
use Rattle.solution.specs.Facts.{Facts, holds, place_count, HasPlaces}
use Rattle.solution.specs.Table.{row_len, word}
use Rattle.solution.proofs.Bits.{none_has}
use Rattle.fact_log.specs.Work.{AreMissing, IsWork, WorkParts}

pub at_within : (t : Facts) (m e i s : ℕ) → holds t (At m e i s) ≡ true → i < row_len t.code m
unfolding holds word row_len
at_within t m e i s h = ⊎_elim (λ lt. lt) (λ past. absurd (none_has e s (rw (get_or_past (slice_index_or t.code m []) i 0 past) at h))) (cases_lt i (length (slice_index_or t.code m [])))

pub ret_within : (t : Facts) (m e s : ℕ) → holds t (Ret m e s) ≡ true → m < row_len t.ends 0
unfolding holds word row_len
ret_within t m e s h = ⊎_elim (λ lt. lt) (λ past. absurd (none_has e s (rw (get_or_past (slice_index_or t.ends 0 []) m 0 past) at h))) (cases_lt m (length (slice_index_or t.ends 0 [])))

pub exc_within : (t : Facts) (m e s : ℕ) → holds t (Exc m e s) ≡ true → m < row_len t.ends 1
unfolding holds word row_len
exc_within t m e s h = ⊎_elim (λ lt. lt) (λ past. absurd (none_has e s (rw (get_or_past (slice_index_or t.ends 1 []) m 0 past) at h))) (cases_lt m (length (slice_index_or t.ends 1 [])))

pub view_within : (t : Facts) (c q s : ℕ) → holds t (View c q s) ≡ true → c < row_len t.ends 2
unfolding holds word row_len
view_within t c q s h = ⊎_elim (λ lt. lt) (λ past. absurd (none_has q s (rw (get_or_past (slice_index_or t.ends 2 []) c 0 past) at h))) (cases_lt c (length (slice_index_or t.ends 2 [])))

-- ---- facts are of methods that are reached
reached : (x : SubjectParts) (m i : ℕ) → i < place_count x m → is_reached x m ≡ true
unfolding place_count
reached x m i lt = ⊎_elim (λ yes. yes) (λ off. absurd (let e = ap (λ b. cond b (code_len x.app m) 0) off in omega (arith, e, lt))) (cases_Bool (is_reached x m))

method_there : (x : SubjectParts) (m : ℕ) → IsSubject x → is_reached x m ≡ true → m < length x.app.methods
unfolding is_reached
method_there x m sound on = ⊎_elim (λ lt. rw sound.reaches.methods at lt) (λ past. absurd (false≢true (sym (get_or_past x.reached m false past) ∙ on))) (cases_lt m (length x.reached))

pub at_place : (x : SubjectParts) (t : Facts) → IsSubject x → HasPlaces x t → (m e i s : ℕ) → holds t (At m e i s) ≡ true → (m < length x.app.methods) × (i < place_count x m)
at_place x t sound places m e i s h = let lt : i < place_count x m = rw (places.code m) at (at_within t m e i s h) in (method_there x m sound (reached x m i lt), lt)

-- ---- out of range nothing is missing
none_missing : (w : WorkParts) (place : ℕ → ℕ → Fact) → ((e s : ℕ) → holds w.solution (place e s) ≡ true → ⊥) → AreMissing w place 0
none_missing w place off e s = (λ h. absurd (none_has e s h), λ m. absurd (off e s m.0))

module _ (raw w : WorkParts) (same : raw ≡ w) (is : IsWork w) where
  pub no_at : (r : Bool) (m i : ℕ) → (IsTrue r ↔ ((m < length raw.subject.app.methods) × (i < place_count raw.subject m))) → r ≡ false → AreMissing w (λ e s. At m e i s) 0
  no_at r m i test off = none_missing w (λ e s. At m e i s) (λ e s h. (let p = at_place w.subject w.solution is.sound is.places m e i s h in let on = test.1 (rw (← same) at p) in cc))

module _ (w : WorkParts) (is : IsWork w) where
  pub no_ret : (m : ℕ) → length w.subject.app.methods ≤ m → AreMissing w (λ e s. Ret m e s) 0
  no_ret m past = none_missing w (λ e s. Ret m e s) (λ e s h. (let lt = ret_within w.solution m e s h in let len = is.places.rets in omega arith))

  pub no_exc : (m : ℕ) → length w.subject.app.methods ≤ m → AreMissing w (λ e s. Exc m e s) 0
  no_exc m past = none_missing w (λ e s. Exc m e s) (λ e s h. (let lt = exc_within w.solution m e s h in let len = is.places.excs in omega arith))

  pub no_views : (c : ℕ) → length w.subject.list ≤ c → AreMissing w (λ q s. View c q s) 0
  no_views c past = none_missing w (λ q s. View c q s) (λ q s h. (let lt = view_within w.solution c q s h in let len = is.places.views in omega arith))
