-- The rows of the status table allow what the machine does.
use Rattle.std.proofs.Common.{◌≡◌, ℕ, zero, suc, Bool, true, false, Option, Some, None, refl}
use Rattle.std.specs.Prelude.{◌||◌}
use Rattle.app_model.specs.Masks.{in_mask, is_held}
use Rattle.flow_model.specs.Passes.{only_if}
use Rattle.flow_model.specs.Status.{acquire_passes, acquire_throws, release_passes, release_throws, is_held_passes, call_throws, uncounted_passes, counted_passes, either_passes, store_passes, null_passes, zero_if_null, nonzero_if_null, zero_if_held, nonzero_if_held, reset, only}
use Rattle.run_model.specs.Heaps.{Counter, status_of, status_by, is_positive}

abbrev pub some : ℕ → Bool → Option Counter
some n c = Some (record { count = n; counted = c })

-- whether the count of what a field holds is above zero
abbrev pub is_above : Option Counter → Bool
is_above None = false
is_above (Some c) = is_positive c.count

-- a row for each status of a counter
module _ (P : ℕ → Type 0) (c0 : P 1) (c1 : P 2) (c2 : P 3) (ct : P 4) (u0 : P 5) (u1 : P 6) where
  by_counter : (c : Bool) (n : ℕ) → P (status_by c n)
  by_counter true zero = c0
  by_counter true (suc zero) = c1
  by_counter true (suc (suc zero)) = c2
  by_counter true (suc (suc (suc n))) = ct
  by_counter false zero = u0
  by_counter false (suc n) = u1

  by_status : P 0 → P 7 → (b : Bool) (o : Option Counter) → P (status_of b o)
  by_status a l true o = l
  by_status a l false None = a
  by_status a l false (Some c) = by_counter c.counted c.count

pub only_ok : (b : Bool) (o : Option Counter) → in_mask (only (status_of b o)) (status_of b o) ≡ true
only_ok b o = by_status (λ s. in_mask (only s) s ≡ true) refl refl refl refl refl refl refl refl b o

pub is_held_ok : (b : Bool) (n : ℕ) (c : Bool) → in_mask (is_held_passes (status_of b (some n c))) (status_of b (some n c)) ≡ true
is_held_ok true n c = refl
is_held_ok false n c = by_counter (λ s. in_mask (is_held_passes s) s ≡ true) refl refl refl refl refl refl c n

pub acquire_ok : (b : Bool) (n : ℕ) (c : Bool) → in_mask (acquire_passes (status_of b (some n c))) (status_of b (some (suc n) c)) ≡ true
acquire_ok true n c = refl
acquire_ok false zero true = refl
acquire_ok false (suc zero) true = refl
acquire_ok false (suc (suc zero)) true = refl
acquire_ok false (suc (suc (suc n))) true = refl
acquire_ok false zero false = refl
acquire_ok false (suc n) false = refl

pub release_ok : (b : Bool) (n : ℕ) → in_mask (release_passes (status_of b (some (suc n) true))) (status_of b (some n true)) ≡ true
release_ok true n = refl
release_ok false zero = refl
release_ok false (suc zero) = refl
release_ok false (suc (suc zero)) = refl
release_ok false (suc (suc (suc n))) = refl

pub release_all_ok : (b : Bool) (n : ℕ) → in_mask (release_passes (status_of b (some n false))) (status_of b (some 0 false)) ≡ true
release_all_ok true n = refl
release_all_ok false zero = refl
release_all_ok false (suc n) = refl

pub release_zero : (b : Bool) → in_mask (release_throws (status_of b (some 0 true))) (status_of b (some 0 true)) ≡ true
release_zero true = refl
release_zero false = refl

pub uncounted_ok : (b : Bool) (n : ℕ) (c : Bool) → in_mask (uncounted_passes (status_of b (some n c))) (status_of b (some n false)) ≡ true
uncounted_ok true n c = refl
uncounted_ok false zero true = refl
uncounted_ok false (suc zero) true = refl
uncounted_ok false (suc (suc zero)) true = refl
uncounted_ok false (suc (suc (suc n))) true = refl
uncounted_ok false zero false = refl
uncounted_ok false (suc n) false = refl

pub counted_ok : (b : Bool) (n : ℕ) (c : Bool) → in_mask (counted_passes (status_of b (some n c))) (status_of b (some n true)) ≡ true
counted_ok true n c = refl
counted_ok false zero true = refl
counted_ok false (suc zero) true = refl
counted_ok false (suc (suc zero)) true = refl
counted_ok false (suc (suc (suc n))) true = refl
counted_ok false zero false = refl
counted_ok false (suc zero) false = refl
counted_ok false (suc (suc zero)) false = refl
counted_ok false (suc (suc (suc n))) false = refl

pub either_ok : (b : Bool) (n : ℕ) (c d : Bool) → in_mask (either_passes (status_of b (some n c))) (status_of b (some n d)) ≡ true
either_ok true n c d = refl
either_ok false zero true true = refl
either_ok false (suc zero) true true = refl
either_ok false (suc (suc zero)) true true = refl
either_ok false (suc (suc (suc n))) true true = refl
either_ok false zero false true = refl
either_ok false (suc zero) false true = refl
either_ok false (suc (suc zero)) false true = refl
either_ok false (suc (suc (suc n))) false true = refl
either_ok false zero true false = refl
either_ok false (suc zero) true false = refl
either_ok false (suc (suc zero)) true false = refl
either_ok false (suc (suc (suc n))) true false = refl
either_ok false zero false false = refl
either_ok false (suc n) false false = refl

-- a call on nothing
pub acquire_none : (b : Bool) → in_mask (acquire_throws (status_of b None)) (status_of b None) ≡ true
acquire_none true = refl
acquire_none false = refl

pub release_none : (b : Bool) → in_mask (release_throws (status_of b None)) (status_of b None) ≡ true
release_none true = refl
release_none false = refl

pub call_none : (b : Bool) → in_mask (call_throws (status_of b None)) (status_of b None) ≡ true
call_none true = refl
call_none false = refl

pub null_test_none : (b : Bool) → in_mask (only_if (in_mask zero_if_null (status_of b None)) (status_of b None)) (status_of b None) ≡ true
null_test_none true = refl
null_test_none false = refl

-- ---- tests of null, and of isHeld
abbrev pub null_mask : Option Counter → ℕ
null_mask None = zero_if_null
null_mask (Some c) = nonzero_if_null

pub null_branch_ok : (b : Bool) (o : Option Counter) → in_mask (only_if (in_mask (null_mask o) (status_of b o)) (status_of b o)) (status_of b o) ≡ true
null_branch_ok true None = refl
null_branch_ok true (Some c) = refl
null_branch_ok false None = refl
null_branch_ok false (Some c) = by_counter (λ s. in_mask (only_if (in_mask nonzero_if_null s) s) s ≡ true) refl refl refl refl refl refl c.counted c.count

abbrev pub held_mask : (above : Bool) → ℕ
held_mask true = nonzero_if_held
held_mask false = zero_if_held

pub held_branch_ok : (b : Bool) (o : Option Counter) → in_mask (only_if (in_mask (held_mask (is_above o)) (status_of b o)) (status_of b o)) (status_of b o) ≡ true
held_branch_ok true o = lost (is_above o)
  where
    lost : (above : Bool) → in_mask (only_if (in_mask (held_mask above) 7) 7) 7 ≡ true
    lost true = refl
    lost false = refl
held_branch_ok false None = refl
held_branch_ok false (Some c) = counter c.counted c.count
  where
    counter : (d : Bool) (n : ℕ) → in_mask (only_if (in_mask (held_mask (is_positive n)) (status_by d n)) (status_by d n)) (status_by d n) ≡ true
    counter true zero = refl
    counter true (suc zero) = refl
    counter true (suc (suc zero)) = refl
    counter true (suc (suc (suc n))) = refl
    counter false zero = refl
    counter false (suc n) = refl

-- stores, and a clearing
module _ (P : ℕ → ℕ → Type 0) (lost : P 7 7) (a : P 0 0) (c0 : P 1 0) (c1 : P 2 7) (c2 : P 3 7) (ct : P 4 7) (u0 : P 5 0) (u1 : P 6 7) where
  by_loss : (b : Bool) (o : Option Counter) → P (status_of b o) (status_of (b || is_above o) None)
  by_loss true o = lost
  by_loss false None = a
  by_loss false (Some c) = counter c.counted c.count
    where
      counter : (d : Bool) (n : ℕ) → P (status_by d n) (status_of (is_positive n) None)
      counter true zero = c0
      counter true (suc zero) = c1
      counter true (suc (suc zero)) = c2
      counter true (suc (suc (suc n))) = ct
      counter false zero = u0
      counter false (suc n) = u1

pub null_ok : (b : Bool) (o : Option Counter) → in_mask (null_passes (status_of b o)) (status_of (b || is_above o) None) ≡ true
null_ok b o = by_loss (λ s t. in_mask (null_passes s) t ≡ true) refl refl refl refl refl refl refl refl b o

pub reset_ok : (b : Bool) (o : Option Counter) → reset (status_of b o) ≡ status_of (b || is_above o) None
reset_ok b o = by_loss (λ s t. reset s ≡ t) refl refl refl refl refl refl refl refl b o

pub store_ok : (b : Bool) (o : Option Counter) → in_mask (store_passes (status_of b o)) (status_of (b || is_above o) (some 0 true)) ≡ true
store_ok true o = refl
store_ok false None = refl
store_ok false (Some c) = counter c.counted c.count
  where
    counter : (d : Bool) (n : ℕ) → in_mask (store_passes (status_by d n)) (status_of (is_positive n) (some 0 true)) ≡ true
    counter true zero = refl
    counter true (suc zero) = refl
    counter true (suc (suc zero)) = refl
    counter true (suc (suc (suc n))) = refl
    counter false zero = refl
    counter false (suc n) = refl

pub held_ok : (b : Bool) (o : Option Counter) → is_held (status_of b o) ≡ (b || is_above o)
held_ok true o = refl
held_ok false None = refl
held_ok false (Some c) = counter c.counted c.count
  where
    counter : (d : Bool) (n : ℕ) → is_held (status_by d n) ≡ is_positive n
    counter true zero = refl
    counter true (suc zero) = refl
    counter true (suc (suc zero)) = refl
    counter true (suc (suc (suc n))) = refl
    counter false zero = refl
    counter false (suc n) = refl
