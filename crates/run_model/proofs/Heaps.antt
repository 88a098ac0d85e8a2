-- The status of a lock field after each operation on locks.
use Rattle.std.proofs.Common.{List, Some, None, Option, ◌≡◌, ◌≢◌, ℕ, zero, suc, ◌-◌, ◌+◌, ◌<◌, ◌≤◌, Bool, true, false, [], ◌∷◌, ◌++◌, length, get_or, set, refl, sym, ap, ◌∙◌, ⊎_elim, arith, length-append}
use Rattle.std.proofs.lemmas.List.{length-set}
use Rattle.std.specs.Prelude.{◌||◌, not, ◌==◌, ◌↔◌}
use Rattle.std.proofs.lemmas.Bool.{cases_eq, cases_Bool, cases_lt, or_cases, or_left, or_right, and_parts, and_from, eq-eqb, eqb-true, ne_eqb, false≢true, and_right}
use Rattle.std.proofs.lemmas.List.{get_or-set_same, get_or-set_other, get_or_past, get_or_append_left, get_or-append_right}
use Rattle.app_model.specs.Masks.{any_below, is_held}
use Rattle.flow_model.proofs.TestLaws.{bool_same, some_below, below_some}
use Rattle.run_model.proofs.Rows.{some, is_above, held_ok}
use Rattle.run_model.specs.Heaps.{cell, Lock, Heap, new_lock, lock_at, is_in_cell, is_positive, is_held_lock, is_lost_lock, is_lost, has_held_lock, counter_at, status_of, status, with_new, cleared_cells}
use Rattle.run_model.specs.Relation.{IsHeap}
use Rattle.run_model.specs.Soundness.{HoldsLock}

any_same : (f g : ℕ → Bool) (n : ℕ) → ((k : ℕ) → f k ≡ g k) → any_below f n ≡ any_below g n
any_same f g zero e = refl
any_same f g (suc n) e = rw (e n, any_same f g n e) refl

-- a lock that has an owner was made
pub owned_there : (h : Heap) (i l : ℕ) → (lock_at h i).owner ≡ Some l → i < length h.locks
unfolding lock_at
owned_there h i l o = ⊎_elim (λ x. x) (λ past. absurd (let none = get_or_past h.locks i (new_lock 0) past in let o' : None ≡ Some l = rw none at o in cc)) (cases_lt i (length h.locks))

module _ (h : Heap) (cs : List (Option ℕ)) (i : ℕ) (x : Lock) where
  abbrev pub put : Heap
  put = record { cells = cs; locks = set h.locks i x }

  pub put_same : i < length h.locks → lock_at put i ≡ x
  unfolding lock_at
  put_same lt = get_or-set_same h.locks i x (new_lock 0) lt

  pub put_at : (k : ℕ) → k ≡ i → i < length h.locks → lock_at put k ≡ x
  put_at k eq lt = ap (lock_at put) eq ∙ put_same lt

  pub put_other : (k : ℕ) → k ≢ i → lock_at put k ≡ lock_at h k
  unfolding lock_at
  put_other k ne = get_or-set_other h.locks i k x (new_lock 0) ne

-- ---- what a field holds
pub cell_set : (h : Heap) (l : ℕ) (o : Option ℕ) (locks : List Lock) → l < length h.cells → cell (record { cells = set h.cells l o; locks = locks }) l ≡ o
unfolding cell
cell_set h l o locks lt = get_or-set_same h.cells l o None lt

pub cell_other : (h : Heap) (l s : ℕ) (o : Option ℕ) (locks : List Lock) → s ≢ l → cell (record { cells = set h.cells l o; locks = locks }) s ≡ cell h s
unfolding cell
cell_other h l s o locks ne = get_or-set_other h.cells l s o None ne

pub cell_same : (h : Heap) (locks : List Lock) (l : ℕ) → cell (record { cells = h.cells; locks = locks }) l ≡ cell h l
unfolding cell
cell_same h locks l = refl

-- the counter of a lock in a cell is as it was, where that lock is as it was
counter_kept : (h h' : Heap) (o : Option ℕ) → ((i : ℕ) → o ≡ Some i → lock_at h' i ≡ lock_at h i) → counter_at h' o ≡ counter_at h o
counter_kept h h' None same = refl
counter_kept h h' (Some i) same = ap (λ (x : Lock). some x.count x.counted) (same i refl)

-- a status is as it was, where the cell, the locks' tests and the counter in the cell are
same_status : (h h' : Heap) (s : ℕ) → length h'.locks ≡ length h.locks → cell h' s ≡ cell h s → ((k : ℕ) → is_lost_lock h' s k ≡ is_lost_lock h s k) → counter_at h' (cell h s) ≡ counter_at h (cell h s) → status h' s ≡ status h s
unfolding status is_lost
same_status h h' s len c tests counter = rw (len, any_same (is_lost_lock h' s) (is_lost_lock h s) (length h.locks) tests, c, counter) refl

pub status_is : (h : Heap) (l : ℕ) → status h l ≡ status_of (is_lost h l) (counter_at h (cell h l))
unfolding status
status_is h l = refl

pub status_at : (h : Heap) (l : ℕ) (o : Option ℕ) → cell h l ≡ o → status h l ≡ status_of (is_lost h l) (counter_at h o)
status_at h l o e = status_is h l ∙ ap (λ c. status_of (is_lost h l) (counter_at h c)) e

-- ---- a lock that changes in the cell of lock field l
module _ (n0 : ℕ) (h : Heap) (l i : ℕ) (x : Lock) (ok : IsHeap n0 h) (c : cell h l ≡ Some i) (owner : x.owner ≡ (lock_at h i).owner) where
  abbrev pub changed : Heap
  changed = record { cells = h.cells; locks = set h.locks i x }

  there : i < length h.locks
  there = owned_there h i l (ok.cell l i c)

  lost_kept : (k : ℕ) → is_lost_lock changed l k ≡ is_lost_lock h l k
  unfolding is_lost_lock is_held_lock
  lost_kept k =
      let cs = cell_same h (set h.locks i x) l in
      rw (cs, c) (⊎_elim (λ eq. let t : (i == k) ≡ true = eq-eqb i k (sym eq) in rw t refl) (λ ne. rw (put_other h h.cells i x k ne) refl) (cases_eq k i))

  pub changed_status : status changed l ≡ status_of (is_lost h l) (some x.count x.counted)
  unfolding status is_lost
  changed_status =
      let e = any_same (is_lost_lock changed l) (is_lost_lock h l) (length h.locks) lost_kept in
      let len = length-set h.locks i x in
      let cs = cell_same h (set h.locks i x) l in
      let got = put_same h h.cells i x there in
      rw (len, e, cs, c, got) refl

  -- the lock of another field's cell is another one
  pub apart : (s k : ℕ) → s ≢ l → cell h s ≡ Some k → k ≢ i
  apart s k ne e eq = let a = ok.cell s k e in let b = ok.cell l i c in let a' : (lock_at h i).owner ≡ Some s = rw eq at a in ne (cc)

  lost_other : (s : ℕ) → s ≢ l → (k : ℕ) → is_lost_lock changed s k ≡ is_lost_lock h s k
  unfolding is_lost_lock is_held_lock
  lost_other s ne k =
      let cs = cell_same h (set h.locks i x) s in
      let off : (l == s) ≡ false = ne_eqb l s (λ e. ne (sym e)) in
      rw cs (⊎_elim (λ eq. (let e1 = put_at h h.cells i x k eq there in let o = ok.cell l i c in rw (e1, eq, owner, o, off) refl)) (λ nk. rw (put_other h h.cells i x k nk) refl) (cases_eq k i))

  pub changed_other : (s : ℕ) → s ≢ l → status changed s ≡ status h s
  changed_other s ne =
      same_status h changed s (length-set h.locks i x) (cell_same h (set h.locks i x) s) (lost_other s ne) (counter_kept h changed (cell h s) (λ k e. put_other h h.cells i x k (apart s k ne e)))

  owner_kept : (k : ℕ) → (lock_at changed k).owner ≡ (lock_at h k).owner
  owner_kept k = ⊎_elim (λ eq. ap (λ (y : Lock). y.owner) (put_at h h.cells i x k eq there) ∙ owner ∙ ap (λ j. (lock_at h j).owner) (sym eq)) (λ ne. ap (λ (y : Lock). y.owner) (put_other h h.cells i x k ne)) (cases_eq k i)

  not_loose : (k : ℕ) → (lock_at h k).owner ≡ None → k ≢ i
  not_loose k f eq = let o = ok.cell l i c in let f' : (lock_at h i).owner ≡ None = rw eq at f in cc

  -- a lock that no field owns is as it was
  pub changed_loose : (k : ℕ) → (lock_at h k).owner ≡ None → lock_at changed k ≡ lock_at h k
  changed_loose k f = put_other h h.cells i x k (not_loose k f)

  -- the lock of another field's cell is as it was
  pub changed_apart : (s k : ℕ) → s ≢ l → cell h s ≡ Some k → lock_at changed k ≡ lock_at h k
  changed_apart s k ne e = put_other h h.cells i x k (apart s k ne e)

  pub changed_count : x.count ≡ (lock_at h i).count → (k : ℕ) → (lock_at changed k).count ≡ (lock_at h k).count
  changed_count same k = ⊎_elim (λ eq. ap (λ (y : Lock). y.count) (put_at h h.cells i x k eq there) ∙ same ∙ ap (λ j. (lock_at h j).count) (sym eq)) (λ ne. ap (λ (y : Lock). y.count) (put_other h h.cells i x k ne)) (cases_eq k i)

  loose_before : (k : ℕ) → (lock_at changed k).owner ≡ None → (lock_at h k).owner ≡ None
  loose_before k f = sym (owner_kept k) ∙ f

  pub changed_ok : IsHeap n0 changed
  changed_ok = record {
    count = ok.count;
    cell = λ s k e. owner_kept k ∙ ok.cell s k (sym (cell_same h (set h.locks i x) s) ∙ e);
    unheld = λ k f. rw (changed_loose k (loose_before k f)) (ok.unheld k (loose_before k f));
    counted = λ k f. rw (changed_loose k (loose_before k f)) (ok.counted k (loose_before k f));
  }

-- ---- held locks
is_in_cell_true : (o : Option ℕ) (k : ℕ) → is_in_cell o k ≡ true → o ≡ Some k
is_in_cell_true None k e = absurd (false≢true e)
is_in_cell_true (Some i) k e = ap Some (eqb-true i k e)

abbrev cell_held : Heap → ℕ → Option ℕ → Bool
cell_held h l None = false
cell_held h l (Some i) = is_held_lock h l i

module _ (h : Heap) (l : ℕ) where
  held_there : (k : ℕ) → is_held_lock h l k ≡ true → k < length h.locks
  unfolding is_held_lock
  held_there k e = owned_there h k l (is_in_cell_true _ l (and_parts _ _ e).0)

  at_cell : (k : ℕ) → is_held_lock h l k ≡ true → is_in_cell (cell h l) k ≡ true → cell_held h l (cell h l) ≡ true
  at_cell k e c = ap (cell_held h l) (is_in_cell_true (cell h l) k c) ∙ e

  off_cell : (k : ℕ) → is_held_lock h l k ≡ true → is_in_cell (cell h l) k ≡ false → is_lost h l ≡ true
  unfolding is_lost is_lost_lock
  off_cell k e c = below_some (is_lost_lock h l) (length h.locks) k (held_there k e) (rw (c, e) refl)

  split_forth : has_held_lock h l ≡ true → (is_lost h l || cell_held h l (cell h l)) ≡ true
  unfolding has_held_lock
  split_forth e = let r = some_below (is_held_lock h l) (length h.locks) e in ⊎_elim (λ c. or_right (is_lost h l) _ (at_cell r.0 r.2 c)) (λ c. or_left (is_lost h l) _ (off_cell r.0 r.2 c)) (cases_Bool (is_in_cell (cell h l) r.0))

  from_lost : is_lost h l ≡ true → has_held_lock h l ≡ true
  unfolding has_held_lock is_lost is_lost_lock
  from_lost e = let r = some_below (is_lost_lock h l) (length h.locks) e in below_some (is_held_lock h l) (length h.locks) r.0 r.1 (and_parts _ _ r.2).1

  from_cell : (o : Option ℕ) → cell_held h l o ≡ true → has_held_lock h l ≡ true
  unfolding has_held_lock
  from_cell None x = absurd (false≢true x)
  from_cell (Some i) x = below_some (is_held_lock h l) (length h.locks) i (held_there i x) x

  -- a held lock is lost, or in the cell
  held_split : has_held_lock h l ≡ (is_lost h l || cell_held h l (cell h l))
  held_split = bool_same _ _ split_forth (λ e. ⊎_elim from_lost (from_cell (cell h l)) (or_cases _ _ e))

  cell_above : (n : ℕ) → IsHeap n h → (o : Option ℕ) → cell h l ≡ o → cell_held h l o ≡ is_above (counter_at h o)
  unfolding is_held_lock
  cell_above n ok None c = refl
  cell_above n ok (Some i) c = let t : (l == l) ≡ true = eq-eqb l l refl in rw (ok.cell l i c, t) refl

  pub held_above : (n : ℕ) → IsHeap n h → has_held_lock h l ≡ (is_lost h l || is_above (counter_at h (cell h l)))
  held_above n ok = held_split ∙ ap (λ b. is_lost h l || b) (cell_above n ok (cell h l) refl)

  status_held : (n : ℕ) → IsHeap n h → is_held (status h l) ≡ has_held_lock h l
  status_held n ok = ap is_held (status_is h l) ∙ held_ok (is_lost h l) (counter_at h (cell h l)) ∙ sym (held_above n ok)

  positive_above : (n : ℕ) → is_positive n ≡ true → 0 < n
  positive_above zero e = absurd (false≢true e)
  positive_above (suc n) e = omega arith

  above_positive : (n : ℕ) → 0 < n → is_positive n ≡ true
  above_positive zero e = absurd (omega arith)
  above_positive (suc n) e = refl

  holds_one : has_held_lock h l ≡ true → HoldsLock h l
  unfolding has_held_lock is_held_lock
  holds_one e =
      let r = some_below (is_held_lock h l) (length h.locks) e in
      let p = and_parts (is_in_cell (lock_at h r.0).owner l) (is_positive (lock_at h r.0).count) r.2 in
      record { lock = r.0; owner = is_in_cell_true _ l p.0; count = positive_above _ p.1 }

  one_holds : HoldsLock h l → has_held_lock h l ≡ true
  unfolding has_held_lock is_held_lock
  one_holds d =
      let t : (l == l) ≡ true = eq-eqb l l refl in
      below_some (is_held_lock h l) (length h.locks) d.lock (owned_there h d.lock l d.owner) (and_from _ _ (rw d.owner t) (above_positive _ d.count))

  pub held_exactly : (n : ℕ) → IsHeap n h → (is_held (status h l) ≡ true) ↔ HoldsLock h l
  held_exactly n ok = (λ e. holds_one (sym (status_held n ok) ∙ e), λ d. status_held n ok ∙ one_holds d)

-- ---- other cells over the same locks
module _ (h : Heap) (cs : List (Option ℕ)) where
  abbrev pub other_cells : Heap
  other_cells = record { cells = cs; locks = h.locks }

  pub other_locks : (i : ℕ) → lock_at other_cells i ≡ lock_at h i
  unfolding lock_at
  other_locks i = refl

  emptied_lost : (l : ℕ) → cell other_cells l ≡ None → (k : ℕ) → is_lost_lock other_cells l k ≡ is_held_lock h l k
  unfolding is_lost_lock is_held_lock lock_at
  emptied_lost l e k = rw e refl

  pub emptied_status : (l : ℕ) → cell other_cells l ≡ None → status other_cells l ≡ status_of (has_held_lock h l) None
  unfolding status is_lost has_held_lock
  emptied_status l e = rw (any_same (is_lost_lock other_cells l) (is_held_lock h l) (length h.locks) (emptied_lost l e), e) refl

  pub kept_status : (l : ℕ) → cell other_cells l ≡ cell h l → status other_cells l ≡ status h l
  unfolding is_lost_lock is_held_lock lock_at
  kept_status l e = same_status h other_cells l refl e (λ k. rw e refl) (counter_kept h other_cells (cell h l) (λ k _. refl))

  pub other_ok : (n : ℕ) → IsHeap n h → length cs ≡ n → ((l i : ℕ) → cell other_cells l ≡ Some i → cell h l ≡ Some i) → IsHeap n other_cells
  unfolding lock_at
  other_ok n ok len from = record { count = len; cell = λ l i e. ok.cell l i (from l i e); unheld = ok.unheld; counted = ok.counted }

-- a clearing
pub cleared_length : (g : ℕ → Bool) (k : ℕ) (cells : List (Option ℕ)) → length (cleared_cells g k cells) ≡ length cells
cleared_length g k [] = refl
cleared_length g k (c ∷ cells) = ap suc (cleared_length g (suc k) cells)

cleared_at : (g : ℕ → Bool) (k : ℕ) (cells : List (Option ℕ)) (i : ℕ) → g (k + i) ≡ true → get_or (cleared_cells g k cells) i None ≡ None
cleared_at g k [] i e = refl
cleared_at g k (c ∷ cells) zero e = let e' : g k ≡ true = ap g (let z : k ≡ k + 0 = omega arith in z) ∙ e in rw e' refl
cleared_at g k (c ∷ cells) (suc i) e = cleared_at g (suc k) cells i (ap g (let z : suc k + i ≡ k + suc i = omega arith in z) ∙ e)

uncleared_at : (g : ℕ → Bool) (k : ℕ) (cells : List (Option ℕ)) (i : ℕ) → g (k + i) ≡ false → get_or (cleared_cells g k cells) i None ≡ get_or cells i None
uncleared_at g k [] i e = refl
uncleared_at g k (c ∷ cells) zero e = let e' : g k ≡ false = ap g (let z : k ≡ k + 0 = omega arith in z) ∙ e in rw e' refl
uncleared_at g k (c ∷ cells) (suc i) e = uncleared_at g (suc k) cells i (ap g (let z : suc k + i ≡ k + suc i = omega arith in z) ∙ e)

module _ (h : Heap) (g : ℕ → Bool) where
  pub cleared_cell : (l : ℕ) → g l ≡ true → cell (other_cells h (cleared_cells g 0 h.cells)) l ≡ None
  unfolding cell
  cleared_cell l e = cleared_at g 0 h.cells l (ap g (let z : 0 + l ≡ l = omega arith in z) ∙ e)

  pub uncleared_cell : (l : ℕ) → g l ≡ false → cell (other_cells h (cleared_cells g 0 h.cells)) l ≡ cell h l
  unfolding cell
  uncleared_cell l e = uncleared_at g 0 h.cells l (ap g (let z : 0 + l ≡ l = omega arith in z) ∙ e)

  cleared_from : (l i : ℕ) → cell (other_cells h (cleared_cells g 0 h.cells)) l ≡ Some i → cell h l ≡ Some i
  cleared_from l i e = ⊎_elim (λ t. absurd (let none = cleared_cell l t in cc)) (λ f. sym (uncleared_cell l f) ∙ e) (cases_Bool (g l))

  pub cleared_heap : (n : ℕ) → IsHeap n h → IsHeap n (other_cells h (cleared_cells g 0 h.cells))
  cleared_heap n ok = other_ok h (cleared_cells g 0 h.cells) n ok (cleared_length g 0 h.cells ∙ ok.count) cleared_from

-- a null store
module _ (n : ℕ) (h : Heap) (l : ℕ) (ok : IsHeap n h) (lt : l < n) where
  pub null_cell : cell (other_cells h (set h.cells l None)) l ≡ None
  null_cell = cell_set h l None h.locks (omega (arith, ok.count))

  pub null_other : (s : ℕ) → s ≢ l → cell (other_cells h (set h.cells l None)) s ≡ cell h s
  null_other s ne = cell_other h l s None h.locks ne

  null_from : (s i : ℕ) → cell (other_cells h (set h.cells l None)) s ≡ Some i → cell h s ≡ Some i
  null_from s i e = ⊎_elim (λ eq. absurd (let none = ap (cell (other_cells h (set h.cells l None))) eq ∙ null_cell in cc)) (λ ne. sym (null_other s ne) ∙ e) (cases_eq s l)

  pub null_heap : IsHeap n (other_cells h (set h.cells l None))
  null_heap = other_ok h (set h.cells l None) n ok (length-set h.cells l None ∙ ok.count) null_from

-- a store of a lock without an owner
module _ (n : ℕ) (h : Heap) (l : ℕ) (ok : IsHeap n h) (lt : l < n) (i : ℕ) (there : i < length h.locks) (loose : (lock_at h i).owner ≡ None) where
  abbrev pub owned_now : Lock
  owned_now = record { owner = Some l; count = (lock_at h i).count; counted = (lock_at h i).counted; site = (lock_at h i).site }

  abbrev pub taken : Heap
  taken = record { cells = set h.cells l (Some i); locks = set h.locks i owned_now }

  pub taken_cell : cell taken l ≡ Some i
  taken_cell = cell_set h l (Some i) (set h.locks i owned_now) (omega (arith, ok.count))

  pub taken_other : (s : ℕ) → s ≢ l → cell taken s ≡ cell h s
  taken_other s ne = cell_other h l s (Some i) (set h.locks i owned_now) ne

  taken_at : (k : ℕ) → k ≡ i → lock_at taken k ≡ owned_now
  taken_at k eq = put_at h (set h.cells l (Some i)) i owned_now k eq there

  pub taken_apart : (k : ℕ) → k ≢ i → lock_at taken k ≡ lock_at h k
  taken_apart k ne = put_other h (set h.cells l (Some i)) i owned_now k ne

  store_lost : (k : ℕ) → is_lost_lock taken l k ≡ is_held_lock h l k
  unfolding is_lost_lock is_held_lock
  store_lost k =
      rw taken_cell (⊎_elim (λ eq. (let t : (i == k) ≡ true = eq-eqb i k (sym eq) in let o : (lock_at h k).owner ≡ None = rw eq loose in rw (t, o) refl)) (λ ne. (let f : (i == k) ≡ false = ne_eqb i k (λ e. ne (sym e)) in rw (f, taken_apart k ne) refl)) (cases_eq k i))

  pub taken_status : status taken l ≡ status_of (has_held_lock h l) (some 0 true)
  unfolding status is_lost has_held_lock
  taken_status =
      let e = any_same (is_lost_lock taken l) (is_held_lock h l) (length h.locks) store_lost in
      let c : (lock_at taken i).count ≡ 0 = ap (λ (x : Lock). x.count) (taken_at i refl) ∙ ok.unheld i loose in
      let d : (lock_at taken i).counted ≡ true = ap (λ (x : Lock). x.counted) (taken_at i refl) ∙ ok.counted i loose in
      rw (length-set h.locks i owned_now, e, taken_cell, c, d) refl

  -- the lock of another field's cell is another one
  pub taken_apart_cell : (s k : ℕ) → cell h s ≡ Some k → k ≢ i
  taken_apart_cell s k e eq = let a = ok.cell s k e in let a' : (lock_at h i).owner ≡ Some s = rw eq at a in cc

  taken_lost : (s : ℕ) → s ≢ l → (k : ℕ) → is_lost_lock taken s k ≡ is_lost_lock h s k
  unfolding is_lost_lock is_held_lock
  taken_lost s ne k =
      let off : (l == s) ≡ false = ne_eqb l s (λ e. ne (sym e)) in
      rw (taken_other s ne) (⊎_elim (λ eq. (let o : (lock_at h k).owner ≡ None = rw eq loose in rw (taken_at k eq, o, off) refl)) (λ nk. rw (taken_apart k nk) refl) (cases_eq k i))

  pub taken_other_status : (s : ℕ) → s ≢ l → status taken s ≡ status h s
  taken_other_status s ne =
      same_status h taken s (length-set h.locks i owned_now) (taken_other s ne) (taken_lost s ne) (counter_kept h taken (cell h s) (λ k e. taken_apart k (taken_apart_cell s k e)))

  taken_cell_ok : (s k : ℕ) → cell taken s ≡ Some k → (lock_at taken k).owner ≡ Some s
  taken_cell_ok s k e =
      ⊎_elim (λ eq. (let c = taken_cell in let e' : cell taken l ≡ Some k = rw eq at e in let ki : k ≡ i = cc in ap (λ (x : Lock). x.owner) (taken_at k ki) ∙ ap Some (sym eq)))
      (λ ne. (let e' = sym (taken_other s ne) ∙ e in ap (λ (x : Lock). x.owner) (taken_apart k (taken_apart_cell s k e')) ∙ ok.cell s k e')) (cases_eq s l)

  taken_loose : (k : ℕ) → (lock_at taken k).owner ≡ None → lock_at taken k ≡ lock_at h k
  taken_loose k f = ⊎_elim (λ eq. absurd (let o = ap (λ (x : Lock). x.owner) (taken_at k eq) in cc)) (λ ne. taken_apart k ne) (cases_eq k i)

  pub taken_heap : IsHeap n taken
  taken_heap = record {
    count = length-set h.cells l (Some i) ∙ ok.count;
    cell = taken_cell_ok;
    unheld = λ k f. (let e = taken_loose k f in rw e (ok.unheld k (sym (ap (λ (x : Lock). x.owner) e) ∙ f)));
    counted = λ k f. (let e = taken_loose k f in rw e (ok.counted k (sym (ap (λ (x : Lock). x.owner) e) ∙ f)));
  }

-- ---- a new lock
module _ (h : Heap) (site : ℕ) where
  abbrev pub grown : Heap
  grown = with_new h site

  pub grown_at : (k : ℕ) → k < length h.locks → lock_at grown k ≡ lock_at h k
  unfolding lock_at
  grown_at k lt = get_or_append_left h.locks (new_lock site ∷ []) (new_lock 0) k lt

  pub grown_last : lock_at grown (length h.locks) ≡ new_lock site
  unfolding lock_at
  grown_last = get_or-append_right h.locks (new_lock site ∷ []) (length h.locks) (length h.locks) (new_lock 0) refl (omega arith) ∙ ap (λ k. get_or (new_lock site ∷ []) k (new_lock 0)) (let z : length h.locks - length h.locks ≡ 0 = omega arith in z)

  past_at : (k : ℕ) → length h.locks < k → lock_at grown k ≡ new_lock 0
  unfolding lock_at
  past_at k lt = get_or_past grown.locks k (new_lock 0) (omega (arith, length-append h.locks (new_lock site ∷ [])))

  -- a lock that is new or was not made has no owner
  new_owner : (k : ℕ) → length h.locks ≤ k → (lock_at grown k).owner ≡ None
  new_owner k le = ⊎_elim (λ eq. ap (λ j. (lock_at grown j).owner) eq ∙ ap (λ (x : Lock). x.owner) grown_last) (λ ne. ap (λ (x : Lock). x.owner) (past_at k (let ne' : k ≢ length h.locks = ne in omega arith))) (cases_eq k (length h.locks))

  old_owner : (k : ℕ) → length h.locks ≤ k → (lock_at h k).owner ≡ None
  unfolding lock_at
  old_owner k le = ap (λ (x : Lock). x.owner) (get_or_past h.locks k (new_lock 0) le)

  pub grown_lost : (l k : ℕ) → is_lost_lock grown l k ≡ is_lost_lock h l k
  unfolding is_lost_lock is_held_lock
  grown_lost l k = rw (cell_same h (h.locks ++ new_lock site ∷ []) l) (⊎_elim (λ lt. rw (grown_at k lt) refl) (λ past. rw (new_owner k past, old_owner k past) refl) (cases_lt k (length h.locks)))

  past_lost : (l : ℕ) → is_lost_lock h l (length h.locks) ≡ false
  unfolding is_lost_lock is_held_lock
  past_lost l = rw (old_owner (length h.locks) (omega arith)) (and_right (not (is_in_cell (cell h l) (length h.locks))) false refl)

  pub grown_status : (n : ℕ) → IsHeap n h → (l : ℕ) → status grown l ≡ status h l
  unfolding status is_lost
  grown_status n ok l =
      let len : length grown.locks ≡ suc (length h.locks) = length-append h.locks (new_lock site ∷ []) ∙ omega arith in
      let e = any_same (is_lost_lock grown l) (is_lost_lock h l) (length h.locks) (grown_lost l) in
      let c = counter_kept h grown (cell h l) (λ k e. grown_at k (owned_there h k l (ok.cell l k e))) in
      rw (len, grown_lost l (length h.locks), past_lost l, e, cell_same h (h.locks ++ new_lock site ∷ []) l, c) refl

  fresh : (x : Lock) (made : ℕ) → x ≡ new_lock made → (x.count ≡ 0) × (x.counted ≡ true)
  fresh x made e = (ap (λ (y : Lock). y.count) e, ap (λ (y : Lock). y.counted) e)

  grown_unheld : (n : ℕ) → IsHeap n h → (k : ℕ) → (lock_at grown k).owner ≡ None → ((lock_at grown k).count ≡ 0) × ((lock_at grown k).counted ≡ true)
  grown_unheld n ok k f =
      ⊎_elim (λ lt. (let e = grown_at k lt in let f' = sym (ap (λ (x : Lock). x.owner) e) ∙ f in (ap (λ (x : Lock). x.count) e ∙ ok.unheld k f', ap (λ (x : Lock). x.counted) e ∙ ok.counted k f')))
      (λ past. ⊎_elim (λ eq. fresh (lock_at grown k) site (ap (lock_at grown) eq ∙ grown_last)) (λ ne. fresh (lock_at grown k) 0 (past_at k (let ne' : k ≢ length h.locks = ne in omega arith))) (cases_eq k (length h.locks)))
      (cases_lt k (length h.locks))

  grown_cell : (n : ℕ) → IsHeap n h → (l i : ℕ) → cell h l ≡ Some i → (lock_at grown i).owner ≡ Some l
  grown_cell n ok l i e = let o = ok.cell l i e in ap (λ (x : Lock). x.owner) (grown_at i (owned_there h i l o)) ∙ o

  pub grown_heap : (n : ℕ) → IsHeap n h → IsHeap n grown
  grown_heap n ok = record {
    count = ok.count;
    cell = λ l i e. grown_cell n ok l i (sym (cell_same h (h.locks ++ new_lock site ∷ []) l) ∙ e);
    unheld = λ k f. (grown_unheld n ok k f).0;
    counted = λ k f. (grown_unheld n ok k f).1;
  }
