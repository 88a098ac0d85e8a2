-- What a tag says of a value, and how that is kept.
use Rattle.std.proofs.Common.{None, Some, Option, if◌then◌else◌, refl, Bool, true, false, ◌≡◌, ◌≢◌, ℕ, zero, suc, ◌<◌, ◌≤◌, sym, ap, ◌∙◌, arith}
use Rattle.std.specs.Prelude.{◌==◌}
use Rattle.std.proofs.lemmas.Bool.{false≢true, eqb-false}
use Rattle.ns_base.specs.declared.rows.LockNo.{LockNo}
use Rattle.app_model.specs.declared.tag.Tag.{Tag}
use Rattle.app_model.specs.declared.tag.Tag.TheVariants as tag
use Rattle.app_model.specs.declared.lock_use.LockUse.{LockUse}
use Rattle.app_model.specs.declared.lock_use.LockUse.TheVariants.{Plain, Make, Acquire, Release, IsHeld, Mode, Wrong}
use Rattle.act_model.specs.Changes.{stored_change, held_change, call_change, without_held}
use Rattle.act_model.specs.Entries.{entering}
use Rattle.flow_model.specs.Scope.{may_be_lock, escapes_as_receiver, may_be_stored}
use Rattle.act_model.specs.Tags.{Under, itself, bot_all, zero_any, solid_any, held_any, all_mixed}
use Rattle.run_model.specs.Heaps.{Value, Zero, Nonzero, Object, LockRef, Heap, Lock, cell, cell_value, held_value, is_lock, lock_at}
use Rattle.run_model.specs.Relation.{Means, IsNew, IsSolid, held_in}

held_value_no_lock : (n : ℕ) → is_lock (held_value n) ≡ false
held_value_no_lock zero = refl
held_value_no_lock (suc n) = refl

pub held_no_lock : (h : Heap) (o : Option ℕ) → is_lock (held_in h o) ≡ false
held_no_lock h None = refl
held_no_lock h (Some i) = held_value_no_lock (lock_at h i).count

pub solid_no_lock : (v : Value) → IsSolid v → is_lock v ≡ false
solid_no_lock Zero ok = absurd ok
solid_no_lock Nonzero ok = refl
solid_no_lock (Object type) ok = refl
solid_no_lock (LockRef i) ok = absurd ok

pub under_ok : {t u : Tag} (v : Value) (lo hi : ℕ) (h : Heap) → Under t u → Means t v lo hi h → Means u v lo hi h
under_ok v lo hi h itself ok = ok
under_ok v lo hi h bot_all ok = absurd ok
under_ok v lo hi h zero_any ok = ap is_lock ok
under_ok v lo hi h solid_any ok = solid_no_lock v ok
under_ok v lo hi h (held_any {l = l}) ok = ap is_lock ok ∙ held_no_lock h (cell h l.0)
under_ok v lo hi h all_mixed ok = tt

-- ---- what tags say of locks
field_of_object : (o : Option ℕ) (type : Option ℕ) → Object type ≡ cell_value o → ⊥
field_of_object None type e = cc
field_of_object (Some i) type e = cc

pub no_field_object : (l : LockNo) (type : Option ℕ) (lo hi : ℕ) (h : Heap) → Means (tag.Field l) (Object type) lo hi h → ⊥
no_field_object l type lo hi h ok = field_of_object (cell h l.0) type ok

pub cell_of_zero : (o : Option ℕ) → Zero ≡ cell_value o → o ≡ None
cell_of_zero None e = refl
cell_of_zero (Some i) e = cc

pub cell_of_lock : (o : Option ℕ) (i : ℕ) → LockRef i ≡ cell_value o → o ≡ Some i
cell_of_lock None i e = cc
cell_of_lock (Some k) i e = cc

pub may_be : (t : Tag) (v : Value) (lo hi : ℕ) (h : Heap) → Means t v lo hi h → is_lock v ≡ true → may_be_lock t ≡ true
may_be tag.Bot v lo hi h ok is = absurd ok
may_be tag.Zero v lo hi h ok is = absurd (false≢true (sym (ap is_lock ok) ∙ is))
may_be tag.Solid v lo hi h ok is = absurd (false≢true (sym (solid_no_lock v ok) ∙ is))
may_be (tag.Held l) v lo hi h ok is = absurd (false≢true (sym (ap is_lock ok ∙ held_no_lock h (cell h l.0)) ∙ is))
may_be tag.Any v lo hi h ok is = absurd (false≢true (sym ok ∙ is))
may_be (tag.Field l) v lo hi h ok is = refl
may_be (tag.New s) v lo hi h ok is = refl
may_be tag.Mixed v lo hi h ok is = refl

-- a lock that is the receiver of a lock call is what a field holds
pub field_receiver : (t : Tag) (i lo hi : ℕ) (h : Heap) → Means t (LockRef i) lo hi h → escapes_as_receiver t ≡ false → (l : LockNo) × (t ≡ tag.Field l)
field_receiver tag.Bot i lo hi h ok s = absurd ok
field_receiver tag.Zero i lo hi h ok s = cc
field_receiver tag.Solid i lo hi h ok s = absurd ok
field_receiver (tag.Held l) i lo hi h ok s = absurd (false≢true (sym (ap is_lock ok ∙ held_no_lock h (cell h l.0))))
field_receiver tag.Any i lo hi h ok s = cc
field_receiver (tag.Field l) i lo hi h ok s = (l, refl)
field_receiver (tag.New z) i lo hi h ok s = cc
field_receiver tag.Mixed i lo hi h ok s = cc

-- what is stored to a lock field is null, or a new lock
pub zero_stored : (t : Tag) (lo hi : ℕ) (h : Heap) → Means t Zero lo hi h → may_be_stored t ≡ true → t ≡ tag.Zero
zero_stored tag.Bot lo hi h ok s = absurd ok
zero_stored tag.Zero lo hi h ok s = refl
zero_stored tag.Solid lo hi h ok s = absurd ok
zero_stored (tag.Held l) lo hi h ok s = cc
zero_stored tag.Any lo hi h ok s = cc
zero_stored (tag.Field l) lo hi h ok s = cc
zero_stored (tag.New z) lo hi h ok s = absurd (let e : Zero ≡ LockRef ok.i = ok.is in cc)
zero_stored tag.Mixed lo hi h ok s = cc

pub new_stored : (t : Tag) (i lo hi : ℕ) (h : Heap) → Means t (LockRef i) lo hi h → may_be_stored t ≡ true → (z : ℕ) × (t ≡ tag.New z) × IsNew z (LockRef i) lo hi h
new_stored tag.Bot i lo hi h ok s = absurd ok
new_stored tag.Zero i lo hi h ok s = cc
new_stored tag.Solid i lo hi h ok s = absurd ok
new_stored (tag.Held l) i lo hi h ok s = cc
new_stored tag.Any i lo hi h ok s = cc
new_stored (tag.Field l) i lo hi h ok s = cc
new_stored (tag.New z) i lo hi h ok s = (z, refl, ok)
new_stored tag.Mixed i lo hi h ok s = cc

-- ---- what is kept
pub held_same : (h h' : Heap) (o : Option ℕ) → ((i : ℕ) → o ≡ Some i → (lock_at h' i).count ≡ (lock_at h i).count) → held_in h' o ≡ held_in h o
held_same h h' None same = refl
held_same h h' (Some i) same = ap held_value (same i refl)

-- locks that no field owns
abbrev pub KeepsLoose : ℕ → ℕ → Heap → Heap → Type 0
KeepsLoose lo hi h h' = (i : ℕ) → lo ≤ i → i < hi → (lock_at h i).owner ≡ None → lock_at h' i ≡ lock_at h i

pub new_kept : (z : ℕ) (v : Value) (lo hi hi' : ℕ) (h h' : Heap) → hi ≤ hi' → KeepsLoose lo hi h h' → IsNew z v lo hi h → IsNew z v lo hi' h'
new_kept z v lo hi hi' h h' le k x =
    let same = k x.i x.from x.below x.loose in
    record { i = x.i; is = x.is; from = x.from; below = omega (arith, x.below); loose = ap (λ (y : Lock). y.owner) same ∙ x.loose; made = ap (λ (y : Lock). y.site) same ∙ x.made }

-- from an earlier number of locks on, as much holds
pub means_lower : (t : Tag) (v : Value) (lo from hi : ℕ) (h : Heap) → lo ≤ from → Means t v from hi h → Means t v lo hi h
means_lower tag.Bot v lo from hi h le ok = ok
means_lower tag.Zero v lo from hi h le ok = ok
means_lower tag.Solid v lo from hi h le ok = ok
means_lower (tag.Held l) v lo from hi h le ok = ok
means_lower tag.Any v lo from hi h le ok = ok
means_lower (tag.Field l) v lo from hi h le ok = ok
means_lower (tag.New z) v lo from hi h le ok = record { i = ok.i; is = ok.is; from = omega (arith, le, ok.from); below = ok.below; loose = ok.loose; made = ok.made }
means_lower tag.Mixed v lo from hi h le ok = ok

-- what a return hands back: nothing of a lock's being held
pub handed_back : (v : Value) (lo hi : ℕ) (h : Heap) (t : Tag) → Means t v lo hi h → Means (entering t) v lo hi h
handed_back v lo hi h tag.Bot ok = ok
handed_back v lo hi h tag.Zero ok = ok
handed_back v lo hi h tag.Solid ok = ok
handed_back v lo hi h (tag.Held l) ok = ap is_lock ok ∙ held_no_lock h (cell h l.0)
handed_back v lo hi h tag.Any ok = ok
handed_back v lo hi h (tag.Field l) ok = ok
handed_back v lo hi h (tag.New z) ok = ok
handed_back v lo hi h tag.Mixed ok = ok

-- an argument, which is no lock, as a method that is entered has it
pub handed_on : (v : Value) (lo hi since : ℕ) (h : Heap) (t : Tag) → is_lock v ≡ false → Means t v lo hi h → Means (entering t) v since since h
handed_on v lo hi since h tag.Bot no_lock ok = ok
handed_on v lo hi since h tag.Zero no_lock ok = ok
handed_on v lo hi since h tag.Solid no_lock ok = ok
handed_on v lo hi since h (tag.Held l) no_lock ok = no_lock
handed_on v lo hi since h tag.Any no_lock ok = ok
handed_on v lo hi since h (tag.Field l) no_lock ok = ok
handed_on v lo hi since h (tag.New z) no_lock ok = absurd (false≢true (sym no_lock ∙ ap is_lock ok.is))
handed_on v lo hi since h tag.Mixed no_lock ok = ok

-- what is said of a frame's values, but for the field under the test
pub record KeepsBut (but : ℕ → Bool) (lo hi hi' : ℕ) (h h' : Heap) : Type 0 where
  pub more : hi ≤ hi'
  pub loose : KeepsLoose lo hi h h'
  pub cells : (l : ℕ) → but l ≡ false → cell h' l ≡ cell h l
  pub held : (l : ℕ) → but l ≡ false → held_in h' (cell h l) ≡ held_in h (cell h l)

abbrev pub nowhere : ℕ → Bool
nowhere l = false

abbrev pub only_at : ℕ → ℕ → Bool
only_at l k = k == l

module _ (lo hi hi' : ℕ) (h h' : Heap) where
  field_kept : (but : ℕ → Bool) → KeepsBut but lo hi hi' h h' → (l : LockNo) (v : Value) → but l.0 ≡ false → Means (tag.Field l) v lo hi h → Means (tag.Field l) v lo hi' h'
  field_kept but k l v off ok = ok ∙ ap cell_value (sym (k.cells l.0 off))

  held_kept : (but : ℕ → Bool) → KeepsBut but lo hi hi' h h' → (l : LockNo) (v : Value) → but l.0 ≡ false → Means (tag.Held l) v lo hi h → Means (tag.Held l) v lo hi' h'
  held_kept but k l v off ok = ok ∙ sym (k.held l.0 off) ∙ ap (held_in h') (sym (k.cells l.0 off))

  pub means_kept : KeepsBut nowhere lo hi hi' h h' → (t : Tag) (v : Value) → Means t v lo hi h → Means t v lo hi' h'
  means_kept k tag.Bot v ok = ok
  means_kept k tag.Zero v ok = ok
  means_kept k tag.Solid v ok = ok
  means_kept k (tag.Held l) v ok = held_kept nowhere k l v refl ok
  means_kept k tag.Any v ok = ok
  means_kept k (tag.Field l) v ok = field_kept nowhere k l v refl ok
  means_kept k (tag.New z) v ok = new_kept z v lo hi hi' h h' k.more k.loose ok
  means_kept k tag.Mixed v ok = ok

  -- ---- acquire and release of what field l holds: the counts of its lock change
  without_ok : (b : Bool) (l : LockNo) (v : Value) → is_lock v ≡ false → (b ≡ false → Means (tag.Held l) v lo hi' h') → Means (if b then tag.Any else tag.Held l) v lo hi' h'
  without_ok true l v no_lock kept = no_lock
  without_ok false l v no_lock kept = kept refl

  held_case : (l : ℕ) → KeepsBut (only_at l) lo hi hi' h h' → (k : LockNo) (v : Value) → Means (tag.Held k) v lo hi h → Means (without_held l k) v lo hi' h'
  held_case l k n v ok = without_ok (n.0 == l) n v (ap is_lock ok ∙ held_no_lock h (cell h n.0)) (λ off. held_kept (only_at l) k n v off ok)

  pub means_counted : (l : LockNo) → KeepsBut (only_at l.0) lo hi hi' h h' → ((k : ℕ) → cell h' k ≡ cell h k) → (t : Tag) (v : Value) → Means t v lo hi h → Means (held_change (tag.Field l) t) v lo hi' h'
  means_counted l k c tag.Bot v ok = ok
  means_counted l k c tag.Zero v ok = ok
  means_counted l k c tag.Solid v ok = ok
  means_counted l k c (tag.Held n) v ok = held_case l.0 k n v ok
  means_counted l k c tag.Any v ok = ok
  means_counted l k c (tag.Field n) v ok = ok ∙ ap cell_value (sym (c n.0))
  means_counted l k c (tag.New z) v ok = new_kept z v lo hi hi' h h' k.more k.loose ok
  means_counted l k c tag.Mixed v ok = ok

  -- ---- stores to field l
  mixed_ok : (b : Bool) (l : LockNo) (v : Value) → (b ≡ false → Means (tag.Field l) v lo hi' h') → Means (if b then tag.Mixed else tag.Field l) v lo hi' h'
  mixed_ok true l v kept = tt
  mixed_ok false l v kept = kept refl

  pub means_null : (l : ℕ) → KeepsBut (only_at l) lo hi hi' h h' → (t : Tag) (v : Value) → Means t v lo hi h → Means (stored_change l tag.Zero t) v lo hi' h'
  means_null l k tag.Bot v ok = ok
  means_null l k tag.Zero v ok = ok
  means_null l k tag.Solid v ok = ok
  means_null l k (tag.Held n) v ok = held_case l k n v ok
  means_null l k tag.Any v ok = ok
  means_null l k (tag.Field n) v ok = mixed_ok (n.0 == l) n v (λ off. field_kept (only_at l) k n v off ok)
  means_null l k (tag.New z) v ok = new_kept z v lo hi hi' h h' k.more k.loose ok
  means_null l k tag.Mixed v ok = ok

  -- of a lock that was made at site z: other locks that no field owns are as they were
  other_new : (b : Bool) (s : ℕ) (v : Value) → (b ≡ false → IsNew s v lo hi' h') → Means (if b then tag.Mixed else tag.New s) v lo hi' h'
  other_new true s v kept = tt
  other_new false s v kept = kept refl

  pub means_stored : (l z i : ℕ) → hi ≤ hi' → ((k : ℕ) → (k == l) ≡ false → cell h' k ≡ cell h k) → ((k : ℕ) → (k == l) ≡ false → held_in h' (cell h k) ≡ held_in h (cell h k)) → ((k : ℕ) → k ≢ i → lock_at h' k ≡ lock_at h k) → (lock_at h i).site ≡ z → (t : Tag) (v : Value) → Means t v lo hi h → Means (stored_change l (tag.New z) t) v lo hi' h'
  means_stored l z i le c d others made tag.Bot v ok = ok
  means_stored l z i le c d others made tag.Zero v ok = ok
  means_stored l z i le c d others made tag.Solid v ok = ok
  means_stored l z i le c d others made (tag.Held n) v ok = without_ok (n.0 == l) n v (ap is_lock ok ∙ held_no_lock h (cell h n.0)) (λ off. ok ∙ sym (d n.0 off) ∙ ap (held_in h') (sym (c n.0 off)))
  means_stored l z i le c d others made tag.Any v ok = ok
  means_stored l z i le c d others made (tag.Field n) v ok = mixed_ok (n.0 == l) n v (λ off. ok ∙ ap cell_value (sym (c n.0 off)))
  means_stored l z i le c d others made (tag.New s) v ok =
      other_new (s == z) s v (λ off.
      (let differs : s ≢ z = eqb-false s z off in
      let apart : ok.i ≢ i = λ eq. differs (sym ok.made ∙ ap (λ k. (lock_at h k).site) eq ∙ made) in
      let same = others ok.i apart in
      record { i = ok.i; is = ok.is; from = ok.from; below = omega (arith, ok.below); loose = ap (λ (y : Lock). y.owner) same ∙ ok.loose; made = ap (λ (y : Lock). y.site) same ∙ ok.made }))
  means_stored l z i le c d others made tag.Mixed v ok = ok

-- ---- a call that throws changes no heap, and forgets what was known
module _ (v : Value) (lo hi : ℕ) (h : Heap) where
  forgets : (b : Bool) (l : LockNo) → Means (tag.Held l) v lo hi h → Means (if b then tag.Any else tag.Held l) v lo hi h
  forgets true l ok = ap is_lock ok ∙ held_no_lock h (cell h l.0)
  forgets false l ok = ok

  by_field : (l : LockNo) (t : Tag) → Means t v lo hi h → Means (held_change (tag.Field l) t) v lo hi h
  by_field l tag.Bot ok = ok
  by_field l tag.Zero ok = ok
  by_field l tag.Solid ok = ok
  by_field l (tag.Held n) ok = forgets (n.0 == l.0) n ok
  by_field l tag.Any ok = ok
  by_field l (tag.Field n) ok = ok
  by_field l (tag.New z) ok = ok
  by_field l tag.Mixed ok = ok

  by_mixed : (t : Tag) → Means t v lo hi h → Means (held_change tag.Mixed t) v lo hi h
  by_mixed tag.Bot ok = ok
  by_mixed tag.Zero ok = ok
  by_mixed tag.Solid ok = ok
  by_mixed (tag.Held n) ok = forgets true n ok
  by_mixed tag.Any ok = ok
  by_mixed (tag.Field n) ok = ok
  by_mixed (tag.New z) ok = ok
  by_mixed tag.Mixed ok = ok

  held_thrown : (r t : Tag) → Means t v lo hi h → Means (held_change r t) v lo hi h
  held_thrown tag.Bot t ok = ok
  held_thrown tag.Zero t ok = ok
  held_thrown tag.Solid t ok = ok
  held_thrown (tag.Held l) t ok = ok
  held_thrown tag.Any t ok = ok
  held_thrown (tag.Field l) t ok = by_field l t ok
  held_thrown (tag.New z) t ok = ok
  held_thrown tag.Mixed t ok = by_mixed t ok

  pub means_thrown : (usage : LockUse) (r t : Tag) → Means t v lo hi h → Means (call_change usage r t) v lo hi h
  means_thrown Plain r t ok = ok
  means_thrown Make r t ok = ok
  means_thrown Acquire r t ok = held_thrown r t ok
  means_thrown Release r t ok = held_thrown r t ok
  means_thrown IsHeld r t ok = ok
  means_thrown Mode r t ok = ok
  means_thrown Wrong r t ok = ok
