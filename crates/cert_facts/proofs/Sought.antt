-- Rows that rise, the search among them, and the walk over them.
use Rattle.std.proofs.Common.{◌≡◌, ◌+◌, ◌-◌, ◌*◌, ◌<◌, ◌≤◌, ℕ, suc, Bool, true, false, List, [], ◌∷◌, length, get_or, take, Some, refl, sym, ap, ◌∙◌, ⊎_elim, arith}
use Rattle.std.specs.Prelude.{◌&&◌, ◌||◌, ◌==◌, slice_get, bit_or}
use Rattle.std.specs.List.{list_any}
use Rattle.std.proofs.lemmas.Bool.{cases_lt, cases_order, or_cases, or_left, or_right, and_parts, false≢true, eqb-true}
use Rattle.std.proofs.lemmas.List.Folds.{list_any_at, list_any_more}
use Rattle.std.proofs.lemmas.Option.{slice_get_within, get_or_from_slice_get, slice_get_read}
use Rattle.app_model.specs.Masks.{in_mask}
use Rattle.flow_model.proofs.MaskLaws.{IsIn-or, IsIn-or_left, IsIn-or_right}
use Rattle.cert_line.specs.declared.rows.ViewRow.{ViewRow}
use Rattle.cert_line.specs.Parts.{BodyParts}
use Rattle.cert_facts.specs.Rows.{Rises, IsFrom, HasEntry, HasState, body_rank, view_rank}
use Rattle.cert_facts.specs.Sets.{is_of_entry, is_of_state}

pub same_test : (a b : Bool) → (a ≡ true → b ≡ true) → (b ≡ true → a ≡ true) → a ≡ b
same_test true b to from = sym (to refl)
same_test false true to from = from refl
same_test false false to from = refl

-- some element passes the test
pub any_found : {X : Type 0} (p : X → Bool) (xs : List X) → list_any p xs ≡ true → (k : ℕ) × (x : X) × (slice_get xs k ≡ Some x) × (p x ≡ true)
any_found p [] h = absurd (cc)
any_found p (x ∷ xs) h = ⊎_elim (λ here. (0, x, refl, here)) (λ later. (let f = any_found p xs later in (suc f.0, f.1, f.2, f.3))) (or_cases (p x) (list_any p xs) h)

pub any_there : {X : Type 0} (p : X → Bool) (xs : List X) (k : ℕ) (x : X) → slice_get xs k ≡ Some x → p x ≡ true → list_any p xs ≡ true
any_there p xs k x there is = list_any_at p xs k x (slice_get_within xs k x there) (rw (get_or_from_slice_get xs k x x there) is)

module _ {R : Type 0} (rank : R → ℕ) where
  pub rank_up : (rows : List R) → Rises rank rows → (i j : ℕ) (a b : R) → slice_get rows i ≡ Some a → slice_get rows j ≡ Some b → i < j → rank a < rank b
  rank_up rows up i j a b first second lt =
      rw (get_or_from_slice_get rows i a a first, get_or_from_slice_get rows j b a second) at (up i j a lt (slice_get_within rows j b second))

  -- ---- each rank is above the one before
  abbrev pub RisesBelow : List R → ℕ → Type 0
  RisesBelow rows n = (i j : ℕ) (d : R) → i < j → j < n → rank (get_or rows i d) < rank (get_or rows j d)

  pub rises_more : (rows : List R) (k : ℕ) (a b : R) → RisesBelow rows k → 1 ≤ k → k < length rows → a ≡ get_or rows (k - 1) a → b ≡ get_or rows k b → rank a < rank b → RisesBelow rows (k + 1)
  rises_more rows k a b up from to first second less = λ i j d lt most.
      (let at_a = get_or_from_slice_get rows (k - 1) a d (slice_get_read rows (length rows) (k - 1) a refl (omega arith) first) in
      let at_b = get_or_from_slice_get rows k b d (slice_get_read rows (length rows) k b refl to second) in
      ⊎_elim (λ below. up i j d lt below)
      (λ here. (let same : j ≡ k = omega arith in rw (same, at_b)
      (⊎_elim
      (λ before. (let step : rank (get_or rows i d) < rank a = rw at_a at (up i (k - 1) d before (omega arith)) in omega arith))
      (λ last. (let is : i ≡ k - 1 = omega arith in rw (is, at_a) less))
      (cases_lt i (k - 1)))))
      (cases_lt j k))

  -- ---- the places between which the search still is
  pub record IsBetween (bound : ℕ) (rows : List R) (low high : ℕ) : Type 0 where
    pub ordered : low ≤ high
    pub within : high ≤ length rows
    pub below : (k : ℕ) (row : R) → k < low → slice_get rows k ≡ Some row → rank row < bound
    pub above : (k : ℕ) (row : R) → high ≤ k → slice_get rows k ≡ Some row → bound ≤ rank row

  module _ (bound : ℕ) (rows : List R) (low high middle : ℕ) (row : R) (up : Rises rank rows) (between : IsBetween bound rows low high) (from : low ≤ middle) (to : middle < high) (is : row ≡ get_or rows middle row) where
    there : slice_get rows middle ≡ Some row
    there = slice_get_read rows (length rows) middle row refl (let w = between.within in omega arith) is

    pub half_up : rank row < bound → IsBetween bound rows (middle + 1) high
    half_up less = record {
      ordered = omega arith;
      within = between.within;
      below = λ k other lt at. ⊎_elim
          (λ same. (let eq : other ≡ row = (let mine = there in let first : slice_get rows middle ≡ Some other = rw same at at in cc) in rw eq less))
          (λ apart. ⊎_elim (λ before. (let step = rank_up rows up k middle other row at there before in omega arith)) (λ after. absurd (omega arith)) apart)
          (cases_order k middle);
      above = between.above;
    }

    pub half_down : bound ≤ rank row → IsBetween bound rows low middle
    half_down le = record {
      ordered = from;
      within = (let w = between.within in omega arith);
      below = between.below;
      above = λ k other ge at. ⊎_elim
          (λ same. (let eq : other ≡ row = (let mine = there in let first : slice_get rows middle ≡ Some other = rw same at at in cc) in rw eq le))
          (λ apart. ⊎_elim (λ before. absurd (omega arith)) (λ after. (let step = rank_up rows up middle k row other there at after in omega arith)) apart)
          (cases_order k middle);
    }

  -- ---- the row that the search finds is the only one of that rank
  module _ (bound : ℕ) (rows : List R) (place : ℕ) (p : R → Bool) (only : (row : R) → p row ≡ true → rank row ≡ bound) (cut : IsFrom rank bound rows place) where
    pub found_alone : (row : R) → Rises rank rows → slice_get rows place ≡ Some row → list_any p (row ∷ []) ≡ list_any p rows
    found_alone row up at = same_test _ _
        (λ here. any_there p rows place row at (⊎_elim (λ yes. yes) (λ none. absurd (false≢true none)) (or_cases (p row) false here)))
        (λ some. (let f = any_found p rows some in let r = only f.1 f.3 in ⊎_elim
        (λ same. (let eq : f.1 ≡ row = (let first : slice_get rows place ≡ Some f.1 = rw same at f.2 in cc) in or_left (p row) false (rw eq at f.3)))
        (λ apart. ⊎_elim
        (λ before. absurd (let b = cut.below f.0 f.1 before f.2 in omega arith))
        (λ after. absurd (let a = cut.above place row (omega arith) at in let u = rank_up rows up place f.0 row f.1 at f.2 after in omega arith)) apart)
        (cases_order f.0 place)))

    pub found_none : length rows ≤ place → false ≡ list_any p rows
    found_none past = same_test _ _
        (λ never. absurd (false≢true never))
        (λ some. absurd (let f = any_found p rows some in let r = only f.1 f.3 in let w = slice_get_within rows f.0 f.1 f.2 in let b = cut.below f.0 f.1 (omega arith) f.2 in omega arith))

-- ---- masks joined
pub or_mask : (a b s : ℕ) → in_mask (bit_or a b) s ≡ (in_mask a s || in_mask b s)
or_mask a b s = same_test _ _
    (λ h. ⊎_elim (λ l. or_left (in_mask a s) (in_mask b s) l) (λ r. or_right (in_mask a s) (in_mask b s) r) (IsIn-or a b s h))
    (λ h. ⊎_elim (λ l. IsIn-or_left a b s l) (λ r. IsIn-or_right a b s r) (or_cases (in_mask a s) (in_mask b s) h))

-- a step of a walk
pub walk_more : {X : Type 0} (p : X → Bool) (rows : List X) (i a b s : ℕ) (row : X) → i < length rows → in_mask a s ≡ list_any p (take i rows) → in_mask b s ≡ p (get_or rows i row) → in_mask (bit_or a b) s ≡ list_any p (take (i + 1) rows)
walk_more p rows i a b s row lt before here = or_mask a b s ∙ ap (λ t. t || in_mask b s) before ∙ ap (λ t. list_any p (take i rows) || t) here ∙ sym (list_any_more p rows i row lt)

pub walk_row : {X : Type 0} (p : X → Bool) (rows : List X) (i a b s : ℕ) (row : X) → i < length rows → in_mask a s ≡ list_any p (take i rows) → row ≡ get_or rows i row → in_mask b s ≡ p row → in_mask (bit_or a b) s ≡ list_any p (take (i + 1) rows)
walk_row p rows i a b s row lt before is here = walk_more p rows i a b s row lt before (here ∙ ap p is)

-- ---- the row that is found has all that the rows tell of a method that was entered at a status
entry_rank : (m e : ℕ) (test : Bool) (row : BodyParts) → (is_of_entry m e row && test) ≡ true → body_rank row ≡ 256 * m + e
entry_rank m e test row h =
    let both = and_parts (row.method == m) (row.entry == e) (and_parts (is_of_entry m e row) test h).0 in
    let method : row.method ≡ m = eqb-true row.method m both.0 in
    let entry : row.entry ≡ e = eqb-true row.entry e both.1 in
    omega arith

module _ (rows : List BodyParts) (m e bound place : ℕ) (is : bound ≡ 256 * m + e) (cut : IsFrom body_rank bound rows place) where
  abbrev test_of : (BodyParts → ℕ) → ℕ → BodyParts → Bool
  test_of mask s row = is_of_entry m e row && in_mask (mask row) s

  rank_is : (mask : BodyParts → ℕ) (s : ℕ) (row : BodyParts) → test_of mask s row ≡ true → body_rank row ≡ bound
  rank_is mask s row h = entry_rank m e (in_mask (mask row) s) row h ∙ sym is

  pub entry_alone : (found : List BodyParts) (row : BodyParts) → Rises body_rank rows → place < length rows → row ≡ get_or rows place row → found ≡ row ∷ [] → HasEntry rows found m e
  entry_alone found row up lt at alone = rw alone (record { same = λ mask s. found_alone body_rank bound rows place (test_of mask s) (rank_is mask s) cut row up (slice_get_read rows (length rows) place row refl lt at) })

  pub entry_none : length rows ≤ place → HasEntry rows [] m e
  entry_none past = record { same = λ mask s. found_none body_rank bound rows place (test_of mask s) (rank_is mask s) cut past }

-- of a component in a state
state_rank : (c q : ℕ) (test : Bool) (row : ViewRow) → (is_of_state c q row && test) ≡ true → view_rank row ≡ 256 * c + q
state_rank c q test row h =
    let both = and_parts (row.component == c) (row.state == q) (and_parts (is_of_state c q row) test h).0 in
    let component : row.component ≡ c = eqb-true row.component c both.0 in
    let state : row.state ≡ q = eqb-true row.state q both.1 in
    omega arith

module _ (rows : List ViewRow) (c q bound place : ℕ) (is : bound ≡ 256 * c + q) (cut : IsFrom view_rank bound rows place) where
  abbrev state_test : ℕ → ViewRow → Bool
  state_test s row = is_of_state c q row && in_mask row.mask s

  number_is : (s : ℕ) (row : ViewRow) → state_test s row ≡ true → view_rank row ≡ bound
  number_is s row h = state_rank c q (in_mask row.mask s) row h ∙ sym is

  pub state_alone : (found : List ViewRow) (row : ViewRow) → Rises view_rank rows → place < length rows → row ≡ get_or rows place row → found ≡ row ∷ [] → HasState rows found c q
  state_alone found row up lt at alone = rw alone (record { same = λ s. found_alone view_rank bound rows place (state_test s) (number_is s) cut row up (slice_get_read rows (length rows) place row refl lt at) })

  pub state_none : length rows ≤ place → HasState rows [] c q
  state_none past = record { same = λ s. found_none view_rank bound rows place (state_test s) (number_is s) cut past }
