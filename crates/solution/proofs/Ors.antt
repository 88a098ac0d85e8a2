-- What a write to one word does to the sets.
use Rattle.std.proofs.Common.{◌≡◌, ◌≢◌, ℕ, ◌^◌, ◌<◌, ◌≤◌, List, [], true, false, length, get_or, set, map, refl, sym, ap, ◌∙◌, inl, inr, ⊎_elim, arith, length-set}
use Rattle.std.specs.Prelude.{◌⊎◌, bit_or}
use Rattle.std.specs.Int.{bit_at}
use Rattle.std.proofs.lemmas.Bool.{cases_eq, cases_lt, true≢false, false≢true}
use Rattle.std.proofs.lemmas.List.{get_or-set_same, get_or-set_other, get_or_default, get_or_past, get_or-map, length-map, map-set}
use Rattle.std.proofs.lemmas.List.Sums.{sum_by-set}
use Rattle.std.proofs.lemmas.Nat.{le_or_l}
use Rattle.std.proofs.lemmas.Nat.Bits.{bit_at_or, bit_at-lt}
use Rattle.std.specs.declared.vec.Vec.{Vec}
use Rattle.std.specs.declared.alloc.Global.{Global}
use Rattle.solution.specs.Table.{Rows, rows_of, items, word, row_len, put, row_room, word_room, room, Ors}

pub row_in : (s : Rows) (t k : ℕ) → k < row_len s t → t < length s
unfolding row_len
row_in s t k lt = ⊎_elim (λ l. l) (λ past. absurd (let e = get_or_past s t [] past in let h : k < 0 = rw e at lt in omega arith)) (cases_lt t (length s))

module _ (s : Rows) (t k w : ℕ) (in_k : k < row_len s t) where
  put_same : word (put s t k w) t k ≡ w
  unfolding word row_len
  put_same = ap (λ (row : List ℕ). get_or row k 0) (get_or-set_same s t (set (get_or s t []) k w) [] (row_in s t k in_k)) ∙ get_or-set_same (get_or s t []) k w 0 in_k

  put_cases : (n j : ℕ) → ((n ≡ t) × (j ≡ k)) ⊎ (word (put s t k w) n j ≡ word s n j)
  unfolding word
  put_cases n j =
      let row = set (get_or s t []) k w in
      let here : n ≡ t → ((n ≡ t) × (j ≡ k)) ⊎ (get_or (get_or (put s t k w) n []) j 0 ≡ get_or (get_or s n []) j 0) = λ em.
      ⊎_elim (λ ej. inl (em, ej)) (λ nj. inr (rw em (ap (λ (r : List ℕ). get_or r j 0) (get_or-set_same s t row [] (row_in s t k in_k)) ∙ get_or-set_other (get_or s t []) k j w 0 nj))) (cases_eq j k) in
      ⊎_elim here (λ nm. inr (ap (λ (r : List ℕ). get_or r j 0) (get_or-set_other s t n row [] nm))) (cases_eq n t)

  put_len : (n : ℕ) → row_len (put s t k w) n ≡ row_len s n
  unfolding row_len
  put_len n =
      let row = set (get_or s t []) k w in
      ⊎_elim (λ em. rw em (ap length (get_or-set_same s t row [] (row_in s t k in_k)) ∙ length-set (get_or s t []) k w)) (λ nm. ap length (get_or-set_other s t n row [] nm)) (cases_eq n t)

  put_falls : word_room w < word_room (word s t k) → room (put s t k w) < room s
  unfolding room word row_len
  put_falls less =
      let row = set (get_or s t []) k w in
      let inner = sum_by-set word_room (get_or s t []) k w 0 in_k in
      let outer = sum_by-set row_room s t row [] (row_in s t k in_k) in
      omega arith

-- a bit of two words joined
pub or_bit : (a b i : ℕ) → bit_at (bit_or a b) i ≡ 1 → (bit_at a i ≡ 1) ⊎ (bit_at b i ≡ 1)
or_bit a b i e =
    let h = bit_at_or a b i in
    let x = bit_at-lt a i in
    let y = bit_at-lt b i in
    ⊎_elim inl (λ ne. inr (omega arith)) (cases_eq (bit_at a i) 1)

pub or_left : (a b i : ℕ) → bit_at a i ≡ 1 → bit_at (bit_or a b) i ≡ 1
or_left a b i e =
    let h = bit_at_or a b i in
    let x = bit_at-lt a i in
    let y = bit_at-lt b i in
    omega arith

pub or_right : (a b i : ℕ) → bit_at b i ≡ 1 → bit_at (bit_or a b) i ≡ 1
or_right a b i e =
    let h = bit_at_or a b i in
    let x = bit_at-lt a i in
    let y = bit_at-lt b i in
    omega arith

or_more : (a b : ℕ) → a ≤ bit_or a b
or_more a b = le_or_l a b

module _ (s : Rows) (t k w : ℕ) (in_k : k < row_len s t) (fits : word s t k < 2 ^ 64) where
  abbrev pub joined : ℕ
  joined = bit_or (word s t k) w

  pub put_ors : joined ≢ word s t k → Ors s t k w (put s t k joined) true
  put_ors ne = record {
    there = λ b e. rw (put_same s t k joined in_k) (or_right (word s t k) w b e);
    kept = λ n j b e. ⊎_elim (λ same. rw (same.0, same.1, put_same s t k joined in_k) (or_left (word s t k) w b (rw (same.0, same.1) at e))) (λ other. rw other e) (put_cases s t k joined in_k n j);
    only = λ n j b e. ⊎_elim
        (λ same. ⊎_elim (λ old. inl (rw (same.0, same.1) old)) (λ new. inr (same.0, same.1, new)) (or_bit (word s t k) w b (rw (same.0, same.1, put_same s t k joined in_k) at e)))
        (λ other. inl (rw other at e)) (put_cases s t k joined in_k n j);
    len = put_len s t k joined in_k;
    same = λ e. absurd (true≢false e);
    falls = λ e. put_falls s t k joined in_k (let le = or_more (word s t k) w in omega arith);
  }

  pub none_ors : joined ≡ word s t k → Ors s t k w s false
  none_ors is = record {
    there = λ b e. rw is at (or_right (word s t k) w b e);
    kept = λ n j b e. e;
    only = λ n j b e. inl e;
    len = λ n. refl;
    same = λ e. refl;
    falls = λ e. absurd (false≢true e);
  }

module _ (rows : List (Vec ℕ Global)) (s : Rows) (view : rows_of rows ≡ s) where
  pub len_read : length s ≡ length rows
  len_read = rw (← view) (length-map rows items)

  pub in_rows : (t k : ℕ) → k < row_len s t → t < length rows
  in_rows t k lt = let h = row_in s t k lt in let e = len_read in omega arith

  pub row_read : (t : ℕ) (v : Vec ℕ Global) → t < length rows → v ≡ get_or rows t v → get_or s t [] ≡ v.items
  row_read t v lt e = rw (← view) (get_or-map items rows t v [] lt ∙ ap items (sym e))

  pub in_row : (t k : ℕ) (v : Vec ℕ Global) → k < row_len s t → v ≡ get_or rows t v → k < length v.items
  unfolding row_len
  in_row t k v lt e = rw (row_read t v (in_rows t k lt) e) at lt

  pub word_read : (t k w : ℕ) (v : Vec ℕ Global) → k < row_len s t → v ≡ get_or rows t v → w ≡ get_or v.items k w → w ≡ word s t k
  unfolding word
  word_read t k w v lt e ew = rw (row_read t v (in_rows t k lt) e) (ew ∙ get_or_default v.items k w 0 (in_row t k v lt e))

  pub put_read : (t k w : ℕ) (v v' : Vec ℕ Global) → k < row_len s t → v ≡ get_or rows t v → v'.items ≡ set v.items k w → rows_of (set rows t v') ≡ put s t k w
  put_read t k w v v' lt e e' = map-set items rows t v' ∙ ap (λ (row : List ℕ). set (map items rows) t row) (e' ∙ ap (λ (row : List ℕ). set row k w) (sym (row_read t v (in_rows t k lt) e))) ∙ ap (λ (r : Rows). set r t (set (get_or s t []) k w)) view
