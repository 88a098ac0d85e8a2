-- Each instruction keeps the relation.
use Rattle.std.proofs.Common.{◌≡◌, ℕ, pred, ◌+◌, ◌<◌, ◌≤◌, ◌≢◌, Bool, true, false, if◌then◌else◌, List, [], ◌∷◌, length, map, get_or, set, slice_get, Option, Some, None, refl, sym, ap, ◌∙◌, inl, arith, subst, subst₂}
use Rattle.std.specs.Prelude.{◌==◌, not}
use Rattle.std.proofs.lemmas.Bool.{eq-eqb, eqb-true, eqb-false, ne_eqb, false≢true}
use Rattle.std.proofs.lemmas.List.{length-set}
use Rattle.std.proofs.lemmas.Option.{get_or_from_slice_get}
use Rattle.ns_base.specs.declared.rows.LockNo.{LockNo}
use Rattle.app_model.specs.declared.tag.Tag.{Tag}
use Rattle.app_model.specs.declared.tag.Tag.TheVariants as tag
use Rattle.act_model.specs.declared.act.Act.{Act}
use Rattle.act_model.specs.declared.act.Act.TheVariants.{Go, Test, Copy, TakeResult, Write, Fill, ReadSlot, WriteSlot, Give, Check, Throw, Return, Call}
use Rattle.act_model.specs.declared.act.Returned.{Returned}
use Rattle.act_model.specs.declared.act.Returned.TheVariants as returned
use Rattle.act_model.specs.declared.act.Throws.{Throws}
use Rattle.act_model.specs.declared.act.Throws.TheVariants.{Never, ByChoice, WhereZero}
use Rattle.act_model.specs.declared.act.Written.{Written}
use Rattle.ns_base.specs.declared.rows.TypeNo.{TypeNo}
use Rattle.dalvik.specs.declared.ins.Args.{Args}
use Rattle.dalvik.specs.declared.body.Place.{Place}
use Rattle.app_model.specs.Words.{place_at, successor_at, successor_of}
use Rattle.act_model.specs.Acts.{act_at}
use Rattle.act_model.specs.Changes.{tag_in, after, after_stored, is_pair, put, result_cell, stored_change, thrown, written_tag}
use Rattle.flow_model.specs.Derived.{Set}
use Rattle.app_model.specs.Reach.{Assigns}
use Rattle.app_model.specs.Sites.{site_at}
use Rattle.flow_model.specs.TagFlow.{answered}
use Rattle.app_model.specs.Facts.{Ret}
use Rattle.app_model.specs.Masks.{in_mask}
use Rattle.flow_model.specs.Status.{only}
use Rattle.flow_model.specs.Passes.{if_passes, passes, passes_by, slot_passes, stored_passes, test_passes, throws, throws_by}
use Rattle.flow_model.specs.Subject.{is_return}
use Rattle.flow_model.proofs.MaskLaws.{IsIn-zero}
use Rattle.flow_model.specs.Rules.{I1_return, by_method}
use Rattle.flow_model.specs.Scope.{is_escape, may_be_lock, may_be_stored}
use Rattle.app_model.specs.Subject.{SubjectParts, slot_count}
use Rattle.run_model.specs.Heaps.{Value, Zero, Nonzero, Object, LockRef, Heap, Lock, cell, cell_value, counter_at, is_lock, is_lost, is_null, is_owned, lock_at, status, with_null, with_stored}
use Rattle.run_model.specs.Frames.{Frame, Here, Over, State, Escape, answers, goes_on, goes_to, here_of, moves, null_options, register, result_index, throws_from, throws_options, with_heap, writes, written_values}
use Rattle.run_model.specs.Calls.{fill_options, gives_lock}
use Rattle.run_model.specs.Machine.{act_options, branch, copy_options, give_options, go_options, return_by, return_options, resumes, store_options, successors_of, take_options, test_options, throw_options, write_options, written_options, written_pairs}
use Rattle.run_model.specs.Choices.{Choices, Single, ForEach}
use Rattle.run_model.specs.Relation.{AreTagged, Below, Each, IsInside, Means}
use Rattle.run_model.proofs.Members.{EachWay, each_by, each_map, each_then, way_if}
use Rattle.run_model.proofs.Rows.{null_ok, store_ok}
use Rattle.run_model.proofs.Heaps.{held_above, emptied_status, kept_status, null_cell, null_heap, null_other, other_locks, status_is, taken_apart, taken_apart_cell, taken_cell, taken_heap, taken_other, taken_other_status, taken_status}
use Rattle.run_model.proofs.Meanings.{KeepsBut, handed_back, only_at, held_same, means_null, means_stored, may_be, new_stored, zero_stored}
use Rattle.run_model.proofs.Registers.{tagged_map, tagged_put, tagged_read, tagged_retag, tagged_set}
use Rattle.run_model.proofs.Entries.{written_ok}
use Rattle.run_model.proofs.Masks.{fails_zero, in_if, passes_full, test_ok}
use Rattle.flow_model.proofs.Slots.{stored_below}
use Rattle.run_model.proofs.Calls.{call_ok, given_by_tag}
use Rattle.run_model.proofs.Callers.{Spares}
use Rattle.run_model.proofs.Stores.{own_store}
use Rattle.run_model.proofs.Steps.{Premises, Stand, goes_ok, live, only_status, out_of, quiet_ok, resumes_ok, row_of, start_status, throws_ok}

if_stored : (b : Bool) → not b ≡ false → b ≡ true
if_stored true e = refl
if_stored false e = cc

is_zero_value : (v : Value) → is_null v ≡ true → v ≡ Zero
is_zero_value Zero is = refl
is_zero_value Nonzero is = cc
is_zero_value (Object type) is = cc
is_zero_value (LockRef i) is = cc

-- a mask that has a status is not empty
not_zero : (passed image r s : ℕ) → in_mask passed r ≡ true → in_mask image s ≡ true → in_mask (if_passes passed image) s ≡ true
not_zero passed image r s some mask = by (passed == 0) refl
  where
    by : (b : Bool) → (passed == 0) ≡ b → in_mask (if b then 0 else image) s ≡ true
    by true none = absurd (IsIn-zero r (subst (λ n. in_mask n r ≡ true) (eqb-true passed 0 none) some))
    by false off = mask

-- the branch of a test is the one of its zero branch exactly where the value is zero
branch_is : (way : ℕ) (b : Bool) → (branch way b == way) ≡ b
branch_is way true = eq-eqb way way refl
branch_is way false = other (way == 0) refl
  where
    other : (b : Bool) → (way == 0) ≡ b → ((if b then 1 else 0) == way) ≡ false
    other true is = ne_eqb 1 way (λ e. omega (arith, e, eqb-true way 0 is))
    other false off = ne_eqb 0 way (λ e. eqb-false way 0 off (sym e))

module _ (x : SubjectParts) (own : ℕ) (set_of : Set) (p : Premises x own set_of) where
  abbrev number : ℕ
  number = slot_count x

  module _ (n : Stand x own set_of p) where
    open n use {h, ok, f, rest, t}

    abbrev here : Here
    here = here_of x p.at h f rest

    abbrev row : List Tag
    row = row_of x own set_of p f

    abbrev out : Bool
    out = out_of x own set_of p f

    abbrev now : ℕ
    now = status h own

    -- ---- where an instruction throws
    register_means : (r : ℕ) (v : Value) → register f r ≡ Some v → Means (tag_in row r) v t.lo (length h.locks) h
    register_means r v there = tagged_read row f.registers t.lo (length h.locks) h t.registers r v there

    -- its own throws, and otherwise what it does where it passes
    module _ (a : Act) (is : act_at x.app f.method f.index ≡ Some a) (kept : AreTagged (thrown a row) f.registers t.lo (length h.locks) h) where
      by_throws : (when : Throws) (normal : Choices State) → in_mask (throws own a row out now) now ≡ in_mask (throws_by own when row now) now
          → (in_mask (passes_by own when row now) now ≡ true → EachWay (IsInside x own set_of) normal) → EachWay (IsInside x own set_of) (throws_options here when normal)
      by_throws Never normal same passed = passed (only_status h own)
      by_throws ByChoice normal same passed =
          each_then (IsInside x own set_of) normal (throws_from here) (passed (only_status h own))
          (throws_ok x own set_of p n a is (same ∙ only_status h own) kept)
      by_throws (WhereZero r) normal same passed = where_null (register f r) refl
        where
          where_null : (o : Option Value) → register f r ≡ o → EachWay (IsInside x own set_of) (null_options here o normal)
          where_null None there = (tt, tt)
          where_null (Some v) there =
              way_if (IsInside x own set_of) (is_null v) (throws_from here) normal
              (λ null.
              (let zero_there : Means (tag_in row r) Zero t.lo (length h.locks) h = subst (λ (w : Value). Means (tag_in row r) w t.lo (length h.locks) h) (is_zero_value v null) (register_means r v there) in
              throws_ok x own set_of p n a is (same ∙ fails_zero own t.lo (length h.locks) h (tag_in row r) zero_there) kept))
              (λ full. passed (passes_full own t.lo (length h.locks) h (tag_in row r) v full (register_means r v there)))

    -- a register that gets a value
    write_ok : (a : Act) (to : ℕ) (tag : Tag) (v : Value) → act_at x.app f.method f.index ≡ Some a → in_mask (passes own a row out 0 now) now ≡ true
        → (AreTagged (set row to tag) (set f.registers to v) t.lo (length h.locks) h → AreTagged (after (site_at x.app f.method f.index) a row) (set f.registers to v) t.lo (length h.locks) h)
        → Means tag v t.lo (length h.locks) h → IsInside x own set_of (writes here to v)
    write_ok a to tag v is mask as_after means = quiet_ok x own set_of p n (set f.registers to v) a 0 is mask (as_after (tagged_set row f.registers t.lo (length h.locks) h t.registers to tag v means))

    take_ok : (to : ℕ) → act_at x.app f.method f.index ≡ Some (TakeResult to) → (o : Option Value) → register f (result_index f) ≡ o → EachWay (IsInside x own set_of) (take_options here to o)
    take_ok to is None there = (tt, tt)
    take_ok to is (Some v) there =
        let same : result_index f ≡ result_cell row = ap pred t.registers.count in
        let means = register_means (result_index f) v there in
        (write_ok (TakeResult to) to (tag_in row (result_cell row)) v is (only_status h own) (λ a. a) (subst (λ r. Means (tag_in row r) v t.lo (length h.locks) h) same means), tt)

    -- ---- on by each successor, and by a test
    place_successors : (o : Option Place) (k i : ℕ) → slice_get (successors_of o) k ≡ Some i → successor_of o k ≡ Some i
    place_successors None k i e = e
    place_successors (Some place) k i e = e

    goes_there : (a : Act) (k i : ℕ) → act_at x.app f.method f.index ≡ Some a → in_mask (passes own a row out k now) now ≡ true → AreTagged (after (site_at x.app f.method f.index) a row) f.registers t.lo (length h.locks) h
        → successor_at x.app f.method f.index k ≡ Some i → IsInside x own set_of (moves here f.registers i)
    goes_there a k i is mask tagged next =
        subst (λ (o : Option ℕ). IsInside x own set_of (goes_to here f.registers o)) next (quiet_ok x own set_of p n f.registers a k is mask tagged)

    go_ok : act_at x.app f.method f.index ≡ Some Go → EachWay (IsInside x own set_of) (go_options here)
    go_ok is =
        each_by (IsInside x own set_of) (moves here f.registers) (successors_of (place_at x.app f.method f.index))
        (λ k i there. goes_there Go k i is (only_status h own) t.registers (place_successors (place_at x.app f.method f.index) k i there))

    test_branch : (value way : ℕ) → act_at x.app f.method f.index ≡ Some (Test value way) → (o : Option Value) → register f value ≡ o → EachWay (IsInside x own set_of) (test_options here way o)
    test_branch value way is None there = (tt, tt)
    test_branch value way is (Some v) there =
        let k = branch way (is_null v) in
        let mask = subst (λ (b : Bool). in_mask (test_passes own (tag_in row value) b now) now ≡ true) (sym (branch_is way (is_null v))) (test_ok own t.lo (length h.locks) h (tag_in row value) v (register_means value v there)) in
        (quiet_ok x own set_of p n f.registers (Test value way) k is mask t.registers, tt)

    -- ---- copies and writes
    copy_ok : (to from : ℕ) (wide : Bool) → act_at x.app f.method f.index ≡ Some (Copy to from wide) → (o o' : Option Value) → register f from ≡ o → register f (from + 1) ≡ o' → EachWay (IsInside x own set_of) (copy_options here to wide o o')
    copy_ok to from wide is None o' there next = (tt, tt)
    copy_ok to from false is (Some v) o' there next = (write_ok (Copy to from false) to (tag_in row from) v is (only_status h own) (λ a. a) (register_means from v there), tt)
    copy_ok to from true is (Some v) None there next = (tt, tt)
    copy_ok to from true is (Some v) (Some w) there next = (
      quiet_ok x own set_of p n (put true f.registers to v w) (Copy to from true) 0 is (only_status h own)
          (tagged_put row f.registers t.lo (length h.locks) h t.registers true to (tag_in row from) (tag_in row (from + 1)) v w (register_means from v there) (register_means (from + 1) w next)),
      tt,
    )

    -- what is written, to a register or to a pair
    module _ (to : ℕ) (what : Written) (when : Throws) (is : act_at x.app f.method f.index ≡ Some (Write to what when)) (mask : in_mask (passes_by own when row now) now ≡ true) where
      abbrev meant : Value → Type 0
      meant v = Means (written_tag what) v t.lo (length h.locks) h

      put_ok : (wide : Bool) → is_pair what ≡ wide → (v w : Value) → meant v → meant w → IsInside x own set_of (goes_on here (put wide f.registers to v w) 0)
      put_ok wide same v w vok wok =
          quiet_ok x own set_of p n (put wide f.registers to v w) (Write to what when) 0 is mask
          (rw same (tagged_put row f.registers t.lo (length h.locks) h t.registers wide to (written_tag what) (written_tag what) v w vok wok))

      pairs_ok : is_pair what ≡ true → (first second : List Value) → Each meant first → Each meant second → EachWay (IsInside x own set_of) (written_pairs here to first second)
      pairs_ok same [] second ok others = tt
      pairs_ok same (v ∷ first) second ok others =
          each_then (IsInside x own set_of) (ForEach second (λ w. goes_on here (put true f.registers to v w) 0)) (written_pairs here to first second)
          (each_map meant (IsInside x own set_of) (λ w. goes_on here (put true f.registers to v w) 0) (λ w wok. put_ok true same v w ok.0 wok) second others) (pairs_ok same first second ok.1 others)

      written_values_ok : (wide : Bool) → is_pair what ≡ wide → (values : List Value) → Each meant values → EachWay (IsInside x own set_of) (written_options here to wide values)
      written_values_ok false same values each = each_map meant (IsInside x own set_of) (writes here to) (λ v vok. put_ok false same v v vok vok) values each
      written_values_ok true same values each = pairs_ok same values values each each

    written_ok_by : (to : ℕ) (what : Written) (when : Throws) → act_at x.app f.method f.index ≡ Some (Write to what when)
        → EachWay (IsInside x own set_of) (throws_options here when (written_options here to (is_pair what) (written_values x.app what)))
    written_ok_by to what when is =
        by_throws (Write to what when) is t.registers when _ refl
        (λ mask. written_values_ok to what when is mask (is_pair what) refl (written_values x.app what) (written_ok x.app what t.lo (length h.locks) h))

    read_ok : (to : ℕ) (slot : LockNo) (when : Throws) → act_at x.app f.method f.index ≡ Some (ReadSlot to slot when)
        → EachWay (IsInside x own set_of) (throws_options here when (Single (writes here to (cell_value (cell h slot.0)))))
    read_ok to slot when is =
        by_throws (ReadSlot to slot when) is t.registers when _ refl
        (λ mask. (write_ok (ReadSlot to slot when) to (tag.Field slot) (cell_value (cell h slot.0)) is mask (λ a. a) refl, tt))

    check_ok : (when : Throws) → act_at x.app f.method f.index ≡ Some (Check when) → EachWay (IsInside x own set_of) (throws_options here when (Single (goes_on here f.registers 0)))
    check_ok when is =
        by_throws (Check when) is t.registers when _ refl
        (λ mask. (quiet_ok x own set_of p n f.registers (Check when) 0 is mask t.registers, tt))

    -- ---- where a lock would not be followed: it is none, by its tag
    no_lock_at : (r : ℕ) (v : Value) → register f r ≡ Some v → may_be_lock (tag_in row r) ≡ false → is_lock v ≡ true → ⊥
    no_lock_at r v there off lock = false≢true (sym off ∙ may_be (tag_in row r) v t.lo (length h.locks) h (register_means r v there) lock)

    give_ok : (from : ℕ) (when : Throws) → act_at x.app f.method f.index ≡ Some (Give from when) → EachWay (IsInside x own set_of) (throws_options here when (give_options here (register f from)))
    give_ok from when is = by_throws (Give from when) is t.registers when _ refl (λ mask. given mask (register f from) refl)
      where
        off : may_be_lock (tag_in row from) ≡ false
        off = subst (λ (o : Option Act). is_escape o row ≡ false) is (p.tagged.no_escape f.method f.index t.reached)

        given : in_mask (passes_by own when row now) now ≡ true → (o : Option Value) → register f from ≡ o → EachWay (IsInside x own set_of) (give_options here o)
        given mask None there = (tt, tt)
        given mask (Some v) there =
            way_if (IsInside x own set_of) (is_lock v) (Single (Over Escape)) (Single (goes_on here f.registers 0)) (λ lock. absurd (no_lock_at from v there off lock))
            (λ _. (quiet_ok x own set_of p n f.registers (Give from when) 0 is mask t.registers, tt))

    throw_ok : (object : ℕ) → act_at x.app f.method f.index ≡ Some (Throw object) → (o : Option Value) → register f object ≡ o → EachWay (IsInside x own set_of) (throw_options here o)
    throw_ok object is None there = (tt, tt)
    throw_ok object is (Some v) there =
        way_if (IsInside x own set_of) (is_lock v) (Single (Over Escape)) (throws_from here)
        (λ lock. absurd (no_lock_at object v there (subst (λ (o : Option Act). is_escape o row ≡ false) is (p.tagged.no_escape f.method f.index t.reached)) lock))
        (λ _. throws_ok x own set_of p n (Throw object) is (only_status h own) t.registers)

    -- ---- stores
    -- of null to lock field l
    module _ (from : ℕ) (l : LockNo) (when : Throws) (is : act_at x.app f.method f.index ≡ Some (WriteSlot from l when)) (passed : in_mask (passes_by own when row now) now ≡ true) where
      in_range : l.0 < number
      in_range = stored_below x f.method f.index from l when is

      may_store : may_be_stored (tag_in row from) ≡ true
      may_store = if_stored (may_be_stored (tag_in row from)) (subst (λ (o : Option Act). is_escape o row ≡ false) is (p.tagged.no_escape f.method f.index t.reached))

      -- it passes, so the mask is that of the store
      store_mask : (image : ℕ) (s : ℕ) → in_mask image s ≡ true → in_mask (if_passes (passes_by own when row now) image) s ≡ true
      store_mask image s mask = not_zero (passes_by own when row now) image now s passed mask

      abbrev emptied : Heap
      emptied = with_null h l.0

      null_keeps : KeepsBut (only_at l.0) t.lo (length h.locks) (length emptied.locks) h emptied
      null_keeps = record {
        more = omega arith;
        loose = λ i from below loose. other_locks h (set h.cells l.0 None) i;
        cells = λ k off. null_other number h l.0 ok in_range k (eqb-false k l.0 off);
        held = λ k off. held_same h emptied (cell h k) (λ i _. ap (λ (y : Lock). y.count) (other_locks h (set h.cells l.0 None) i));
      }

      -- another field than this one is one to which this store does not go
      other_field : (k : ℕ) → ¬ Assigns x.app x.graph f.method k → k ≢ l.0
      other_field k off same = off (subst (λ (i : ℕ). Assigns x.app x.graph f.method i) (sym same) (own_store x.app x.graph f.method f.index from l when is))

      null_spares : Spares x f.method t.lo h emptied
      null_spares = record {
        more = omega arith;
        loose = λ i from below loose. other_locks h (set h.cells l.0 None) i;
        cells = λ k off. null_other number h l.0 ok in_range k (other_field k off);
      }

      null_mask : in_mask (slot_passes own l tag.Zero (status h own)) (status emptied own) ≡ true
      null_mask =
          in_if (l.0 == own) (stored_passes tag.Zero (status h own)) (only (status h own)) (status emptied own)
          (λ same.
          (let eq = eqb-true l.0 own same in
          let gone : cell emptied own ≡ None = ap (cell emptied) (sym eq) ∙ null_cell number h l.0 ok in_range in
          rw (emptied_status h (set h.cells l.0 None) own gone, held_above h own number ok, status_is h own) (null_ok (is_lost h own) (counter_at h (cell h own)))))
          (λ differs. rw (kept_status h (set h.cells l.0 None) own (null_other number h l.0 ok in_range own (λ e. eqb-false l.0 own differs (sym e)))) (only_status h own))

      store_null : register f from ≡ Some Zero → EachWay (IsInside x own set_of) (store_options here l.0 Zero)
      store_null there =
          let e = zero_stored (tag_in row from) t.lo (length h.locks) h (register_means from Zero there) may_store in
          let tags = tagged_map row f.registers t.lo (length h.locks) h t.registers (stored_change l.0 tag.Zero) (length emptied.locks) emptied (means_null t.lo (length h.locks) (length emptied.locks) h emptied l.0 null_keeps) in (
            goes_ok x own set_of p n emptied f.registers (WriteSlot from l when) 0 (null_heap number h l.0 ok in_range) is null_spares
                (store_mask _ (status emptied own) (subst (λ (q : Tag). in_mask (slot_passes own l q (status h own)) (status emptied own) ≡ true) (sym e) null_mask))
                (subst (λ (q : Tag). AreTagged (after_stored row from l q) f.registers t.lo (length emptied.locks) emptied) (sym e) tags),
            tt,
          )

      -- of a lock that was made at site z, and that no field owns
      module _ (i z : ℕ) (there : register f from ≡ Some (LockRef i)) (e : tag_in row from ≡ tag.New z) (since : t.lo ≤ i) (below : i < length h.locks) (loose : (lock_at h i).owner ≡ None) (made : (lock_at h i).site ≡ z) where
        abbrev stored : Heap
        stored = with_stored h l.0 i

        new_mask : in_mask (slot_passes own l (tag.New z) (status h own)) (status stored own) ≡ true
        new_mask =
            in_if (l.0 == own) (stored_passes (tag.New z) (status h own)) (only (status h own)) (status stored own)
            (λ same.
            (let eq = eqb-true l.0 own same in
            let now = taken_status number h l.0 ok in_range i below loose in
            let table = store_ok (is_lost h l.0) (counter_at h (cell h l.0)) in
            subst (λ o. in_mask (stored_passes (tag.New z) (status h o)) (status stored o) ≡ true) eq (rw (now, held_above h l.0 number ok, status_is h l.0) table)))
            (λ differs. rw (taken_other_status number h l.0 ok in_range i below loose own (λ q. eqb-false l.0 own differs (sym q))) (only_status h own))

        same_length : length stored.locks ≡ length h.locks
        same_length = length-set h.locks i (record { owner = Some l.0; count = (lock_at h i).count; counted = (lock_at h i).counted; site = (lock_at h i).site })

        new_spares : Spares x f.method t.lo h stored
        new_spares = record {
          more = omega (arith, same_length);
          loose = λ j from before free. taken_apart number h l.0 ok in_range i below loose j (λ same. (let later : t.lo ≤ j = rw same since in omega (arith, later, before)));
          cells = λ k off. taken_other number h l.0 ok in_range i below loose k (other_field k off);
        }

        new_tags : AreTagged (map (stored_change l.0 (tag.New z)) row) f.registers t.lo (length stored.locks) stored
        new_tags =
            tagged_map row f.registers t.lo (length h.locks) h t.registers (stored_change l.0 (tag.New z)) (length stored.locks) stored
            (means_stored t.lo (length h.locks) (length stored.locks) h stored l.0 z i (omega (arith, same_length)) (λ k off. taken_other number h l.0 ok in_range i below loose k (eqb-false k l.0 off))
            (λ k off. held_same h stored (cell h k) (λ j c. ap (λ (y : Lock). y.count) (taken_apart number h l.0 ok in_range i below loose j (taken_apart_cell number h l.0 ok in_range i below loose k j c))))
            (λ k ne. taken_apart number h l.0 ok in_range i below loose k ne) made)

        store_new : IsInside x own set_of (goes_on (with_heap here stored) f.registers 0)
        store_new =
            let held : get_or f.registers from Zero ≡ LockRef i = get_or_from_slice_get f.registers from (LockRef i) Zero there in
            let means : Means (tag.Field l) (get_or f.registers from Zero) t.lo (length stored.locks) stored = held ∙ ap cell_value (sym (taken_cell number h l.0 ok in_range i below loose)) in
            let tags = tagged_retag (map (stored_change l.0 (tag.New z)) row) f.registers t.lo (length stored.locks) stored new_tags from (tag.Field l) means in
            goes_ok x own set_of p n stored f.registers (WriteSlot from l when) 0 (taken_heap number h l.0 ok in_range i below loose) is new_spares
            (store_mask _ (status stored own) (subst (λ (q : Tag). in_mask (slot_passes own l q (status h own)) (status stored own) ≡ true) (sym e) new_mask))
            (subst (λ (q : Tag). AreTagged (after_stored row from l q) f.registers t.lo (length stored.locks) stored) (sym e) tags)

      same_lock : (i j : ℕ) → LockRef i ≡ LockRef j → j ≡ i
      same_lock i j e = cc

      store_lock : (i : ℕ) → register f from ≡ Some (LockRef i) → EachWay (IsInside x own set_of) (store_options here l.0 (LockRef i))
      store_lock i there =
          let new = new_stored (tag_in row from) i t.lo (length h.locks) h (register_means from (LockRef i) there) may_store in
          let n = new.2 in
          let same = same_lock i n.i n.is in
          let since : t.lo ≤ i = subst (λ j. t.lo ≤ j) same n.from in
          let below : i < length h.locks = subst (λ j. j < length h.locks) same n.below in
          let loose : (lock_at h i).owner ≡ None = subst (λ j. (lock_at h j).owner ≡ None) same n.loose in
          let made : (lock_at h i).site ≡ new.0 = subst (λ j. (lock_at h j).site ≡ new.0) same n.made in
          way_if (IsInside x own set_of) (is_owned (lock_at h i).owner) (Single (Over Escape)) (Single (goes_on (with_heap here (with_stored h l.0 i)) f.registers 0))
          (λ owned. absurd (false≢true (sym (ap is_owned loose) ∙ owned)))
          (λ _. (store_new i new.0 there new.1 since below loose made, tt))

      store_ok_by : (v : Value) → register f from ≡ Some v → EachWay (IsInside x own set_of) (store_options here l.0 v)
      store_ok_by Zero there = store_null there
      store_ok_by Nonzero there = (tt, tt)
      store_ok_by (Object type) there = (tt, tt)
      store_ok_by (LockRef i) there = store_lock i there

      store_value : (o : Option Value) → register f from ≡ o → EachWay (IsInside x own set_of) (write_options here l o)
      store_value None there = (tt, tt)
      store_value (Some v) there = store_ok_by v there

    write_slot : (from : ℕ) (l : LockNo) (when : Throws) → act_at x.app f.method f.index ≡ Some (WriteSlot from l when) → EachWay (IsInside x own set_of) (throws_options here when (write_options here l (register f from)))
    write_slot from l when is = by_throws (WriteSlot from l when) is t.registers when _ refl (λ mask. store_value from l when is mask (register f from) refl)

    returns_fact : (answer : Returned) → act_at x.app f.method f.index ≡ Some (Return answer) → set_of (Ret f.method t.e (status h own)) ≡ true
    returns_fact answer is = p.closed.by _ _ (inl (I1_return (ap is_return is))) (t.at, tt)

    -- ---- returns: what is handed back is as the tag of the answer says
    returns_ok : (answer : Returned) → act_at x.app f.method f.index ≡ Some (Return answer) → (v : Value) → Means (answered answer row) v t.lo (length h.locks) h → (frames : List Frame) → Below x own set_of p.root (start_status x own set_of p) h frames f.method t.e t.lo
        → IsInside x own set_of (resumes x p.at h frames v)
    returns_ok answer is v means [] b =
        rw p.callback.there (record {
          before = p.at;
          edge = p.edge;
          s0 = p.s0;
          needs = Ret p.root (start_status x own set_of p) (status h own) ∷ [];
          callback = p.callback;
          same_component = refl;
          same_edge = refl;
          states = refl;
          heap = ok;
          carried = by_method p.root p.method;
          has = (subst₂ (λ m e. set_of (Ret m e (status h own)) ≡ true) b.0 b.1 (returns_fact answer is), tt);
        })
    returns_ok answer is v means (g ∷ frames) b = resumes_ok x own set_of p h ok g frames f.method t.e t.lo t.from b f.index answer v is (live x own set_of p n) (returns_fact answer is) means

    return_ok : (answer : Returned) → act_at x.app f.method f.index ≡ Some (Return answer) → EachWay (IsInside x own set_of) (return_options here answer)
    return_ok returned.Nothing is = (returns_ok returned.Nothing is Zero refl rest t.below, tt)
    return_ok returned.Wide is = (returns_ok returned.Wide is Zero refl rest t.below, tt)
    return_ok (returned.Register r) is = by (register f r) refl
      where
        by : (o : Option Value) → register f r ≡ o → EachWay (IsInside x own set_of) (return_by here o)
        by None there = (tt, tt)
        by (Some v) there = (returns_ok (returned.Register r) is v (handed_back v t.lo (length h.locks) h (tag_in row r) (register_means r v there)) rest t.below, tt)

    -- ---- an array of arguments
    fill_ok : (arguments : Args) (kind : TypeNo) → act_at x.app f.method f.index ≡ Some (Fill arguments kind) → EachWay (IsInside x own set_of) (fill_options here arguments kind)
    fill_ok arguments kind is =
        way_if (IsInside x own set_of) (gives_lock f arguments 0) (Single (Over Escape)) (Single (answers here (Object (Some kind.0))))
        (λ g. absurd (false≢true (sym (subst (λ (o : Option Act). is_escape o row ≡ false) is (p.tagged.no_escape f.method f.index t.reached)) ∙ given_by_tag row f t.lo (length h.locks) h t.registers arguments 0 g)))
        (λ _.
        (let same : result_index f ≡ result_cell row = ap pred t.registers.count in (
          subst (λ r. IsInside x own set_of (writes here r (Object (Some kind.0)))) (sym same)
              (write_ok (Fill arguments kind) (result_cell row) tag.Solid (Object (Some kind.0)) is (only_status h own) (λ a. a) tt),
          tt,
        )))

    -- ---- every instruction
    pub act_ok : (o : Option Act) → act_at x.app f.method f.index ≡ o → EachWay (IsInside x own set_of) (act_options here o)
    act_ok None is = (tt, tt)
    act_ok (Some Go) is = go_ok is
    act_ok (Some (Test value way)) is = test_branch value way is (register f value) refl
    act_ok (Some (Copy to from wide)) is = copy_ok to from wide is (register f from) (register f (from + 1)) refl refl
    act_ok (Some (TakeResult to)) is = take_ok to is (register f (result_index f)) refl
    act_ok (Some (Write to what when)) is = written_ok_by to what when is
    act_ok (Some (Fill arguments kind)) is = fill_ok arguments kind is
    act_ok (Some (ReadSlot to slot when)) is = read_ok to slot when is
    act_ok (Some (WriteSlot from slot when)) is = write_slot from slot when is
    act_ok (Some (Give from when)) is = give_ok from when is
    act_ok (Some (Check when)) is = check_ok when is
    act_ok (Some (Throw object)) is = throw_ok object is (register f object) refl
    act_ok (Some (Return answer)) is = return_ok answer is
    act_ok (Some (Call by usage arguments given)) is = call_ok x own set_of p n by usage arguments given is
