-- Reports of the lock fields one after the other, and their order.
use Rattle.std.proofs.Common.{suc, ◌≡◌, ◌≢◌, ℕ, ◌<◌, ◌+◌, List, [], ◌∷◌, ◌++◌, length, map, get_or, sym, ap, ◌∙◌, arith, subst, ⊎_elim}
use Rattle.std.specs.Prelude.{◌==◌, AllPairs, Contains}
use Rattle.std.specs.List.{All, IsDistinct}
use Rattle.std.specs.List.Sorted.{IsNonDecreasing, IsNonDecreasingBy, IsPermutation}
use Rattle.std.proofs.lemmas.Bool.{cases_lt, eq-eqb, ne_eqb}
use Rattle.std.proofs.lemmas.Bool.Decides.{Decides-eqb, eqb_tells}
use Rattle.std.proofs.lemmas.List.{get_or-map, length-map, map-append}
use Rattle.std.proofs.lemmas.List.Elements.{All-append, All-contains, Contains-append_cases, Contains-append_left, Contains-append_right, Contains-get_or}
use Rattle.std.proofs.lemmas.List.Kept.{AllPairs-cons, AllPairs-from_increasing}
use Rattle.std.proofs.lemmas.List.Sorted.{All-permutation, Contains-permutation, IsPermutation-map, IsPermutation-sym}
use Rattle.std.proofs.lemmas.Map.Keys.{IsDistinct-IsPermutation, IsStrictlyIncreasing-from_distinct}
use Rattle.std.proofs.lemmas.Map.Made.{IsDistinct-from_AllPairs}
use Rattle.std.proofs.lemmas.Option.{slice_get-get_or}
use Rattle.app_model.specs.Subject.{SubjectParts, IsSubject, slot_count}
use Rattle.flow_model.specs.Policy.{ComesBefore, IsDerivableViolation}
use Rattle.flow_model.specs.declared.policy.Violation.{Violation}
use Rattle.report_path.specs.declared.report.Report.{Report}
use Rattle.report_path.specs.Reports.{IsValidReport, violation_of}
use Rattle.view_solver.specs.Reported.{report_number}
use Rattle.view_solver.proofs.Reported.{IsSmall, derivable_small, goes_before, same_number}
use Rattle.derivation.specs.AllReports.{AreAllReports, AreGathered, AreReports}

-- ---- pairs of two lists
module _ {A : Type 0} (R : A → A → Type 0) where
  head_pairs : (x : A) (xs : List A) → AllPairs R (x ∷ xs) → All (R x) xs
  head_pairs x xs h k d lt = h 0 (suc k) d (omega arith) (omega (arith, lt))

  tail_pairs : (x : A) (xs : List A) → AllPairs R (x ∷ xs) → AllPairs R xs
  tail_pairs x xs h i j d lt below = h (suc i) (suc j) d (omega (arith, lt)) (omega (arith, below))

  append_pairs : (xs ys : List A) → AllPairs R xs → AllPairs R ys → ((x y : A) → Contains xs x → Contains ys y → R x y) → AllPairs R (xs ++ ys)
  append_pairs [] ys h k cross = k
  append_pairs (x ∷ xs) ys h k cross =
      AllPairs-cons R x (xs ++ ys)
      (λ i d lt.
      (let y = get_or (xs ++ ys) i d in
      ⊎_elim (λ l. All-contains (R x) xs y (head_pairs x xs h) l) (λ r. cross x y (Contains-append_left (x ∷ []) xs x (Contains-get_or (x ∷ []) 0 x (omega arith))) r)
      (Contains-append_cases xs ys y (Contains-get_or (xs ++ ys) i d lt))))
      (append_pairs xs ys (tail_pairs x xs h) k (λ a b l r. cross a b (Contains-append_right (x ∷ []) xs a l) r))

-- ---- violations that come before others differ from them
never_before : (v : Violation) → ComesBefore v v → ⊥
never_before v h = ⊎_elim (λ a. omega (arith, a)) (λ b. ⊎_elim (λ a. omega (arith, a)) (λ c. ⊎_elim (λ a. omega (arith, a)) (λ d. (let lt = d.1 in omega (arith, lt))) c.1) b.1) h

differs : (v w : Violation) → ComesBefore v w → v ≢ w
differs v w h same = never_before w (subst (λ (z : Violation). ComesBefore z w) same h)

-- ---- none, and those of one more lock field
pub none_gathered : (t : SubjectParts) → AreGathered t 0 []
none_gathered t = record {
  valid = λ k d lt. absurd (omega (arith, lt));
  once = λ i j d lt below. absurd (omega (arith, below));
  exact = λ v. (λ h. absurd (let lt = h.1 in omega (arith, lt)), λ h. absurd (let lt = h.0 in omega (arith, lt)));
}

pub one_more_lock : (t : SubjectParts) (l : ℕ) (old more : List Report) → AreGathered t l old → AreReports t l more → AreGathered t (l + 1) (old ++ more)
one_more_lock t l old more before are =
    let vs = map violation_of old in
    let ws = map violation_of more in
    let names : map violation_of (old ++ more) ≡ vs ++ ws = map-append violation_of old more in
    record {
      valid = All-append (IsValidReport t) old more before.valid (λ k d lt. are.valid k (get_or more k d) (slice_get-get_or more k d lt));
      once = rw names (append_pairs (λ v w. v ≢ w) vs ws before.once (λ i j d lt below. differs (get_or ws i d) (get_or ws j d) (are.names.ordered i j d lt below))
          (λ v w a b same. (let low = ((before.exact v).0 a).0 in let at = ((are.names.exact w).0 b).0 in let locks = ap (λ (z : Violation). z.lock) same in omega (arith, low, at, locks))));
      exact = λ v. (
        λ h. ⊎_elim
            (λ a. (let e = (before.exact v).0 a in let low = e.0 in (omega (arith, low), e.1)))
            (λ b. (let e = (are.names.exact v).0 b in let at = e.0 in (omega (arith, at), subst (λ (l : ℕ). IsDerivableViolation t l v.component v.callback v.status) (sym at) e.1)))
            (Contains-append_cases vs ws v (subst (λ (xs : List Violation). Contains xs v) names h)),
        λ h. subst (λ (xs : List Violation). Contains xs v) (sym names) (⊎_elim
            (λ low. Contains-append_left vs ws v ((before.exact v).1 (low, h.1)))
            (λ past. (let low = h.0 in let at : v.lock ≡ l = omega (arith, low, past) in
            Contains-append_right vs ws v ((are.names.exact v).1 (at, subst (λ (l : ℕ). IsDerivableViolation t l v.component v.callback v.status) at h.1))))
            (cases_lt v.lock l)),
      );
    }

-- ---- in their order
flips : (x y : ℕ) → (x == y) ≡ (y == x)
flips x y = ⊎_elim (λ s. s.0 ∙ sym (eq-eqb y x (sym s.1))) (λ n. n.0 ∙ sym (ne_eqb y x (λ e. n.1 (sym e)))) (eqb_tells x y)

first_of : (reports : List Report) (i : ℕ) → i < length reports → Report
first_of [] i lt = absurd (omega (arith, lt))
first_of (r ∷ reports) i lt = r

abbrev pub number_of : Report → ℕ
number_of r = report_number (violation_of r)

module _ (t : SubjectParts) (sound : IsSubject t) (n : ℕ) (old : List Report) (gathered : AreGathered t n old) where
  small : (v : Violation) → Contains (map violation_of old) v → IsSmall t v
  small v h = derivable_small t sound v ((gathered.exact v).0 h).1

  numbers_differ : AllPairs (λ (x y : ℕ). x ≢ y) (map report_number (map violation_of old))
  numbers_differ i j d lt below =
      let vs = map violation_of old in
      let within : j < length vs = omega (arith, below, length-map vs report_number) in
      let none : Violation = record { component = 0; callback = 0; lock = 0; status = 0 } in
      let v = get_or vs i none in
      let w = get_or vs j none in
      let first = get_or-map report_number vs i none d (omega (arith, lt, within)) in
      let second = get_or-map report_number vs j none d within in
      λ same. gathered.once i j none lt within (same_number t v w (small v (Contains-get_or vs i none (omega (arith, lt, within)))) (small w (Contains-get_or vs j none within)) (sym first ∙ same ∙ second))

  module _ (new : List Report) (moved : IsPermutation old new) (rising : IsNonDecreasingBy number_of new) where
    names_moved : IsPermutation (map violation_of old) (map violation_of new)
    names_moved = IsPermutation-map violation_of old new moved

    numbers_high : IsNonDecreasing (map report_number (map violation_of new))
    numbers_high i j d le below =
        let vs = map violation_of new in
        let within : j < length vs = omega (arith, below, length-map vs report_number) in
        let inside : j < length new = omega (arith, within, length-map new violation_of) in
        let v : Violation = record { component = 0; callback = 0; lock = 0; status = 0 } in
        let r : Report = first_of new j inside in
        let one : get_or (map report_number vs) i d ≡ number_of (get_or new i r) = get_or-map report_number vs i v d (omega (arith, le, within)) ∙ ap report_number (get_or-map violation_of new i r v (omega (arith, le, inside))) in
        let two : get_or (map report_number vs) j d ≡ number_of (get_or new j r) = get_or-map report_number vs j v d within ∙ ap report_number (get_or-map violation_of new j r v inside) in
        rw (one, two) (rising i j r le inside)

    numbers_rise : AllPairs (λ (x y : ℕ). x < y) (map report_number (map violation_of new))
    numbers_rise =
        let ms = map report_number (map violation_of old) in
        let ns = map report_number (map violation_of new) in
        let apart : IsDistinct (λ (x y : ℕ). x == y) ns = IsDistinct-IsPermutation (λ (x y : ℕ). x == y) flips ms ns (IsPermutation-map report_number (map violation_of old) (map violation_of new) names_moved) (IsDistinct-from_AllPairs Decides-eqb ms numbers_differ) in
        AllPairs-from_increasing ns (IsStrictlyIncreasing-from_distinct ns numbers_high apart)

    pub in_order : n ≡ slot_count t → AreAllReports t new
    in_order all =
        let vs = map violation_of new in
        record {
          valid = All-permutation (IsValidReport t) old new moved gathered.valid;
          names = record {
            ordered = λ i j d lt below.
                (let v = get_or vs i d in
                let w = get_or vs j d in
                let within : j < length (map report_number vs) = omega (arith, below, length-map vs report_number) in
                let up = numbers_rise i j 0 lt within in
                let first = get_or-map report_number vs i d 0 (omega (arith, lt, below)) in
                let second = get_or-map report_number vs j d 0 below in
                let back : (z : Violation) → Contains vs z → IsSmall t z = λ z h. small z (Contains-permutation vs (map violation_of old) z (IsPermutation-sym (map violation_of old) vs names_moved) h) in
                goes_before t v w (back v (Contains-get_or vs i d (omega (arith, lt, below)))) (back w (Contains-get_or vs j d below)) (rw (first, second) at up));
            exact = λ v. (
              λ h. ((gathered.exact v).0 (Contains-permutation vs (map violation_of old) v (IsPermutation-sym (map violation_of old) vs names_moved) h)).1,
              λ d. Contains-permutation (map violation_of old) vs v names_moved ((gathered.exact v).1 (let slot = d.slot in omega (arith, slot, all), d)),
            );
          };
        }
