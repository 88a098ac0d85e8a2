-- The masks of calls allow what the machine does, by the tags of the receiver and of the argument behind it.
use Rattle.std.proofs.Common.{◌≡◌, ◌≢◌, ℕ, zero, suc, Bool, true, false, if◌then◌else◌, Option, Some, None, refl, sym, ap, ◌∙◌, subst, subst₂}
use Rattle.std.specs.Prelude.{◌==◌, not}
use Rattle.std.proofs.lemmas.Bool.{eqb-true, eqb-false, false≢true}
use Rattle.ns_base.specs.declared.rows.LockNo.{LockNo}
use Rattle.app_model.specs.declared.tag.Tag.{Tag}
use Rattle.app_model.specs.declared.tag.Tag.TheVariants as tag
use Rattle.app_model.specs.declared.lock_use.LockUse.{LockUse}
use Rattle.app_model.specs.declared.lock_use.LockUse.TheVariants.{Plain, Make, Acquire, Release, IsHeld, Mode, Wrong}
use Rattle.app_model.specs.Masks.{in_mask}
use Rattle.flow_model.specs.Passes.{only_if, by_branch, call_throws_with, fails_null, lock_call_passes, lock_call_throws, nullness, passes_null, passes_outside, test_passes, throws_outside}
use Rattle.flow_model.specs.declared.passes.Nullness.{Nullness}
use Rattle.flow_model.specs.declared.passes.Nullness.TheVariants.{Own, Unknown}
use Rattle.flow_model.specs.Status.{only, acquire_throws, release_throws, call_throws, mode_throws, mode_passes, zero_if_null, nonzero_if_null, zero_if_held, nonzero_if_held}
use Rattle.flow_model.proofs.MaskLaws.{IsIn-or_left, IsIn-or_right}
use Rattle.run_model.specs.Heaps.{Value, Zero, Nonzero, Object, LockRef, Heap, cell, cell_value, counter_at, held_value, is_lost, is_null, is_positive, lock_at, status, status_of}
use Rattle.run_model.specs.Relation.{Means, IsSolid, held_in}
use Rattle.run_model.proofs.Rows.{some, acquire_none, release_none, call_none, held_branch_ok, held_mask, null_branch_ok, null_test_none, uncounted_ok, counted_ok, either_ok}
use Rattle.run_model.proofs.Heaps.{status_at}
use Rattle.run_model.proofs.Meanings.{cell_of_zero}
use Rattle.run_model.proofs.Steps.{only_status}

pub in_if : (b : Bool) (c d s : ℕ) → (b ≡ true → in_mask c s ≡ true) → (b ≡ false → in_mask d s ≡ true) → in_mask (if b then c else d) s ≡ true
in_if true c d s f g = f refl
in_if false c d s f g = g refl

-- what holds of a field's own nullness, and of one that is not known
pub by_own : (b : Bool) (mask : Nullness → ℕ) (s : ℕ) → (b ≡ true → in_mask (mask Own) s ≡ true) → in_mask (mask Unknown) s ≡ true → in_mask (mask (if b then Own else Unknown)) s ≡ true
by_own true mask s own other = own refl
by_own false mask s own other = other

module _ (own lo hi : ℕ) (h : Heap) where
  -- what lock field `own` holds, told by another name
  own_cell : (l : LockNo) (o : Option ℕ) → cell h l.0 ≡ o → (l.0 == own) ≡ true → cell h own ≡ o
  own_cell l o c same = ap (cell h) (sym (eqb-true l.0 own same)) ∙ c

  -- a field that holds nothing
  own_none : (column : ℕ → ℕ) → ((b : Bool) → in_mask (column (status_of b None)) (status_of b None) ≡ true) → cell h own ≡ None → in_mask (column (status h own)) (status h own) ≡ true
  own_none column row c = rw (status_at h own None c) (row (is_lost h own))

  lock_throws_zero : (column : ℕ → ℕ) → ((b : Bool) → in_mask (column (status_of b None)) (status_of b None) ≡ true) → (t : Tag) → Means t Zero lo hi h → in_mask (lock_call_throws column (nullness own t) (status h own)) (status h own) ≡ true
  lock_throws_zero column row tag.Bot ok = absurd ok
  lock_throws_zero column row tag.Zero ok = only_status h own
  lock_throws_zero column row tag.Solid ok = only_status h own
  lock_throws_zero column row (tag.Held l) ok = only_status h own
  lock_throws_zero column row tag.Any ok = only_status h own
  lock_throws_zero column row (tag.Field l) ok =
      by_own (l.0 == own) (λ n. lock_call_throws column n (status h own)) (status h own)
      (λ same. own_none column row (own_cell l None (cell_of_zero (cell h l.0) ok) same)) (only_status h own)
  lock_throws_zero column row (tag.New z) ok = only_status h own
  lock_throws_zero column row tag.Mixed ok = only_status h own

  -- a register that must not be null: it is
  pub fails_zero : (t : Tag) → Means t Zero lo hi h → in_mask (fails_null (nullness own t) (status h own)) (status h own) ≡ true
  fails_zero tag.Bot ok = absurd ok
  fails_zero tag.Zero ok = only_status h own
  fails_zero tag.Solid ok = absurd ok
  fails_zero (tag.Held l) ok = only_status h own
  fails_zero tag.Any ok = only_status h own
  fails_zero (tag.Field l) ok =
      by_own (l.0 == own) (λ n. fails_null n (status h own)) (status h own)
      (λ same. own_none (λ s. only_if (in_mask zero_if_null s) s) null_test_none (own_cell l None (cell_of_zero (cell h l.0) ok) same)) (only_status h own)
  fails_zero (tag.New z) ok = absurd (let e : Zero ≡ LockRef ok.i = ok.is in cc)
  fails_zero tag.Mixed ok = only_status h own

  -- and where it is not
  not_null : (o : Option ℕ) (v : Value) → is_null v ≡ false → v ≡ cell_value o → (i : ℕ) × (o ≡ Some i)
  not_null None v full e = absurd (false≢true (sym full ∙ ap is_null e))
  not_null (Some i) v full e = (i, refl)

  own_some : (i : ℕ) → cell h own ≡ Some i → in_mask (only_if (in_mask nonzero_if_null (status h own)) (status h own)) (status h own) ≡ true
  own_some i c = rw (status_at h own (Some i) c) (null_branch_ok (is_lost h own) (counter_at h (Some i)))

  pub passes_full : (t : Tag) (v : Value) → is_null v ≡ false → Means t v lo hi h → in_mask (passes_null (nullness own t) (status h own)) (status h own) ≡ true
  passes_full tag.Bot v full ok = absurd ok
  passes_full tag.Zero v full ok = absurd (false≢true (sym full ∙ ap is_null ok))
  passes_full tag.Solid v full ok = only_status h own
  passes_full (tag.Held l) v full ok = only_status h own
  passes_full tag.Any v full ok = only_status h own
  passes_full (tag.Field l) v full ok =
      let n = not_null (cell h l.0) v full ok in
      by_own (l.0 == own) (λ n. passes_null n (status h own)) (status h own) (λ same. own_some n.0 (own_cell l (Some n.0) n.1 same)) (only_status h own)
  passes_full (tag.New z) v full ok = only_status h own
  passes_full tag.Mixed v full ok = only_status h own

  -- a call on null, and on an object where it leads outside
  outside_throws_zero : (out : Bool) (t : Tag) → Means t Zero lo hi h → in_mask (throws_outside out (nullness own t) (status h own)) (status h own) ≡ true
  outside_throws_zero out t ok = IsIn-or_left (fails_null (nullness own t) (status h own)) (passes_outside out (nullness own t) (status h own)) (status h own) (fails_zero t ok)

  pub outside_throws_full : (t : Tag) (v : Value) → is_null v ≡ false → Means t v lo hi h → in_mask (throws_outside true (nullness own t) (status h own)) (status h own) ≡ true
  outside_throws_full t v full ok = IsIn-or_right (fails_null (nullness own t) (status h own)) (passes_null (nullness own t) (status h own)) (status h own) (passes_full t v full ok)

  -- ---- a test against zero takes the branch of the value
  abbrev branch_mask : ℕ → ℕ
  branch_mask mask = only_if (in_mask mask (status h own)) (status h own)

  null_branch : (l : LockNo) (o : Option ℕ) → cell h l.0 ≡ o → (l.0 == own) ≡ true → in_mask (by_branch (is_null (cell_value o)) (branch_mask zero_if_null) (branch_mask nonzero_if_null)) (status h own) ≡ true
  null_branch l None c same = own_none (λ s. only_if (in_mask zero_if_null s) s) null_test_none (own_cell l None c same)
  null_branch l (Some i) c same = own_some i (own_cell l (Some i) c same)

  held_none : cell h own ≡ None → in_mask (branch_mask zero_if_held) (status h own) ≡ true
  held_none c = rw (status_at h own None c) (held_branch_ok (is_lost h own) None)

  held_some : (i n : ℕ) → cell h own ≡ Some i → (lock_at h i).count ≡ n → in_mask (branch_mask (held_mask (is_positive n))) (status h own) ≡ true
  held_some i n c count = rw (sym count, status_at h own (Some i) c) (held_branch_ok (is_lost h own) (counter_at h (Some i)))

  held_branch : (l : LockNo) (o : Option ℕ) → cell h l.0 ≡ o → (l.0 == own) ≡ true → in_mask (by_branch (is_null (held_in h o)) (branch_mask zero_if_held) (branch_mask nonzero_if_held)) (status h own) ≡ true
  held_branch l None c same = held_none (own_cell l None c same)
  held_branch l (Some i) c same = counted (lock_at h i).count refl
    where
      counted : (n : ℕ) → (lock_at h i).count ≡ n → in_mask (by_branch (is_null (held_value n)) (branch_mask zero_if_held) (branch_mask nonzero_if_held)) (status h own) ≡ true
      counted zero count = held_some i zero (own_cell l (Some i) c same) count
      counted (suc n) count = held_some i (suc n) (own_cell l (Some i) c same) count

  solid_full : (v : Value) → IsSolid v → is_null v ≡ false
  solid_full Zero ok = absurd ok
  solid_full Nonzero ok = refl
  solid_full (Object type) ok = refl
  solid_full (LockRef i) ok = refl

  pub test_ok : (t : Tag) (v : Value) → Means t v lo hi h → in_mask (test_passes own t (is_null v) (status h own)) (status h own) ≡ true
  test_ok tag.Bot v ok = absurd ok
  test_ok tag.Zero v ok = rw ok (only_status h own)
  test_ok tag.Solid v ok = rw (solid_full v ok) (only_status h own)
  test_ok (tag.New z) v ok = rw (ok.is) (only_status h own)
  test_ok (tag.Held l) v ok =
      in_if (l.0 == own) _ (only (status h own)) (status h own) (λ same. rw ok (held_branch l (cell h l.0) refl same)) (λ _. only_status h own)
  test_ok (tag.Field l) v ok =
      in_if (l.0 == own) _ (only (status h own)) (status h own) (λ same. rw ok (null_branch l (cell h l.0) refl same)) (λ _. only_status h own)
  test_ok tag.Any v ok = only_status h own
  test_ok tag.Mixed v ok = only_status h own

  mode_none : (t : Tag) (v : Value) → Means t v lo hi h → (b : Bool) → in_mask (mode_throws t (status_of b None)) (status_of b None) ≡ true
  mode_none tag.Bot v ok b = absurd ok
  mode_none tag.Zero v ok b = call_none b
  mode_none tag.Solid v ok b = call_none b
  mode_none (tag.Held l) v ok b = call_none b
  mode_none tag.Any v ok b = call_none b
  mode_none (tag.Field l) v ok b = call_none b
  mode_none (tag.New z) v ok b = call_none b
  mode_none tag.Mixed v ok b = call_none b

  -- a call on null throws
  pub zero_throws : (out : Bool) (usage : LockUse) (receiver argument : Tag) → Means receiver Zero lo hi h → (usage ≡ Mode → (v : Value) × Means argument v lo hi h) → in_mask (call_throws_with usage out (nullness own receiver) argument (status h own)) (status h own) ≡ true
  zero_throws out Plain r a ok has = outside_throws_zero out r ok
  zero_throws out Make r a ok has = outside_throws_zero true r ok
  zero_throws out Wrong r a ok has = outside_throws_zero true r ok
  zero_throws out Acquire r a ok has = lock_throws_zero acquire_throws acquire_none r ok
  zero_throws out Release r a ok has = lock_throws_zero release_throws release_none r ok
  zero_throws out IsHeld r a ok has = lock_throws_zero call_throws call_none r ok
  zero_throws out Mode r a ok has = let m = has refl in lock_throws_zero (mode_throws a) (mode_none a m.0 m.1) r ok

  -- setReferenceCounted by the tag of its argument
  pub mode_ok : (t : Tag) (v : Value) → Means t v lo hi h → (b : Bool) (n : ℕ) (c : Bool) → in_mask (mode_passes t (status_of b (some n c))) (status_of b (some n (not (is_null v)))) ≡ true
  mode_ok tag.Bot v ok b n c = absurd ok
  mode_ok tag.Zero v ok b n c = rw ok (uncounted_ok b n c)
  mode_ok tag.Solid Zero ok b n c = absurd ok
  mode_ok tag.Solid Nonzero ok b n c = counted_ok b n c
  mode_ok tag.Solid (Object type) ok b n c = counted_ok b n c
  mode_ok tag.Solid (LockRef i) ok b n c = absurd ok
  mode_ok (tag.Held l) v ok b n c = either_ok b n c (not (is_null v))
  mode_ok tag.Any v ok b n c = either_ok b n c (not (is_null v))
  mode_ok (tag.Field l) v ok b n c = either_ok b n c (not (is_null v))
  mode_ok (tag.New z) v ok b n c = either_ok b n c (not (is_null v))
  mode_ok tag.Mixed v ok b n c = either_ok b n c (not (is_null v))

-- an operation on the lock that field k holds, by a column of the table
pub column_ok : (own : ℕ) (h h' : Heap) (k : LockNo) (column : ℕ → ℕ) (i n : ℕ) (c : Bool) → cell h k.0 ≡ Some i → status h' k.0 ≡ status_of (is_lost h k.0) (some n c) → (own ≢ k.0 → status h' own ≡ status h own)
    → in_mask (column (status_of (is_lost h k.0) (counter_at h (Some i)))) (status_of (is_lost h k.0) (some n c)) ≡ true → in_mask (lock_call_passes column (nullness own (tag.Field k)) (status h own)) (status h' own) ≡ true
column_ok own h h' k column i n c holds after other row = by_field (k.0 == own) refl
  where
    by_field : (b : Bool) → (k.0 == own) ≡ b → in_mask (lock_call_passes column (if b then Own else Unknown) (status h own)) (status h' own) ≡ true
    by_field true same =
        let eq = eqb-true k.0 own same in
        let before : status_of (is_lost h k.0) (counter_at h (Some i)) ≡ status h own = sym (status_at h k.0 (Some i) holds) ∙ ap (status h) eq in
        let now : status_of (is_lost h k.0) (some n c) ≡ status h' own = sym after ∙ ap (status h') eq in
        subst₂ (λ a b. in_mask (column a) b ≡ true) before now row
    by_field false differs = subst (λ s. in_mask (only (status h own)) s ≡ true) (sym (other (λ e. eqb-false k.0 own differs (sym e)))) (only_status h own)
