-- Lock calls keep the relation.
use Rattle.std.proofs.Common.{◌≡◌, ℕ, zero, suc, pred, ◌≤◌, Bool, true, false, List, length, map, set, Option, Some, None, refl, sym, ap, ◌∙◌, arith, subst}
use Rattle.std.specs.Prelude.{not, ◌==◌, IfSome}
use Rattle.std.proofs.lemmas.Bool.{eqb-true, eqb-false}
use Rattle.std.proofs.lemmas.List.{length-set}
use Rattle.ns_base.specs.declared.rows.LockNo.{LockNo}
use Rattle.dalvik.specs.declared.ins.Args.{Args}
use Rattle.app_model.specs.declared.tag.Tag.{Tag}
use Rattle.app_model.specs.declared.tag.Tag.TheVariants as tag
use Rattle.app_model.specs.declared.lock_use.LockUse.{LockUse}
use Rattle.app_model.specs.declared.lock_use.LockUse.TheVariants.{Plain, Make, Acquire, Release, IsHeld, Mode, Wrong}
use Rattle.app_model.specs.declared.calls.By.{By}
use Rattle.act_model.specs.declared.act.Gives.{Gives}
use Rattle.act_model.specs.declared.act.LockOp.{LockOp}
use Rattle.act_model.specs.declared.act.LockOp.TheVariants as ops
use Rattle.act_model.specs.declared.act.Act.TheVariants.{Call}
use Rattle.dalvik.specs.Calls.{receiver_of, argument_of}
use Rattle.act_model.specs.Acts.{act_at, op_of}
use Rattle.act_model.specs.Changes.{tag_in, thrown, held_change, call_change, result_tag, held_tag}
use Rattle.flow_model.specs.Derived.{Set}
use Rattle.app_model.specs.Sites.{site_at}
use Rattle.app_model.specs.Masks.{in_mask}
use Rattle.flow_model.specs.Passes.{passes, lock_call_passes, lock_call_throws, nullness}
use Rattle.flow_model.specs.Status.{acquire_passes, release_passes, release_throws, is_held_passes, mode_passes}
use Rattle.app_model.specs.Subject.{SubjectParts, slot_count}
use Rattle.run_model.specs.Heaps.{Value, Zero, Heap, Lock, cell, held_value, is_lost, is_null, lock_at, status, status_of, with_count}
use Rattle.run_model.specs.Frames.{Frame, Here, here_of, with_heap, register, result_index, answers}
use Rattle.run_model.specs.Calls.{release_options, mode_options, operation_options}
use Rattle.run_model.specs.Choices.{Single}
use Rattle.run_model.specs.Relation.{AreTagged, IsHeap, IsInside, Means, held_in}
use Rattle.run_model.proofs.Members.{EachWay}
use Rattle.run_model.proofs.Rows.{some, acquire_ok, release_ok, release_all_ok, release_zero, is_held_ok}
use Rattle.run_model.proofs.Heaps.{cell_same, changed_status, changed_other, changed_ok, changed_loose, changed_apart, changed_count, status_at}
use Rattle.run_model.proofs.Meanings.{KeepsBut, nowhere, only_at, held_same, means_counted, means_kept, means_thrown}
use Rattle.run_model.proofs.Registers.{tagged_map, tagged_set, tagged_read}
use Rattle.run_model.proofs.Masks.{by_own, column_ok, mode_ok}
use Rattle.run_model.proofs.Callers.{Spares, spares_all}
use Rattle.run_model.proofs.Steps.{Premises, Stand, out_of, row_of, goes_ok, throws_ok, only_status}

module _ (x : SubjectParts) (own : ℕ) (set_of : Set) (p : Premises x own set_of) where
  abbrev pub receiver_tag : Frame → Args → Tag
  receiver_tag f arguments = tag_in (row_of x own set_of p f) (receiver_of arguments)

  abbrev pub argument_tag : Frame → Args → Tag
  argument_tag f arguments = tag_in (row_of x own set_of p f) (argument_of arguments)

  module _ (n : Stand x own set_of p) (by : By) (arguments : Args) (given : Gives) where
    open n use {h, f, rest, t}

    -- a call that answers
    pub answer_ok : (h' : Heap) (usage : LockUse) (v : Value) → act_at x.app f.method f.index ≡ Some (Call by usage arguments given) → IsHeap (slot_count x) h' → Spares x f.method t.lo h h'
        → in_mask (passes own (Call by usage arguments given) (row_of x own set_of p f) (out_of x own set_of p f) 0 (status h own)) (status h' own) ≡ true → AreTagged (thrown (Call by usage arguments given) (row_of x own set_of p f)) f.registers t.lo (length h'.locks) h'
        → Means (result_tag (site_at x.app f.method f.index) usage given (receiver_tag f arguments)) v t.lo (length h'.locks) h' → IsInside x own set_of (answers (here_of x p.at h' f rest) v)
    answer_ok h' usage v is kept spares mask tagged means =
        let row = thrown (Call by usage arguments given) (row_of x own set_of p f) in
        let result = result_tag (site_at x.app f.method f.index) usage given (receiver_tag f arguments) in
        let written = tagged_set row f.registers t.lo (length h'.locks) h' tagged (result_index f) result v means in
        goes_ok x own set_of p n h' (set f.registers (result_index f) v) (Call by usage arguments given) 0 kept is spares mask
        (subst (λ (r : ℕ). AreTagged (set row r result) (set f.registers (result_index f) v) t.lo (length h'.locks) h') (ap pred t.registers.count) written)

    -- a call that throws
    pub thrown_ok : (usage : LockUse) → AreTagged (thrown (Call by usage arguments given) (row_of x own set_of p f)) f.registers t.lo (length h.locks) h
    thrown_ok usage =
        tagged_map (row_of x own set_of p f) f.registers t.lo (length h.locks) h t.registers (call_change usage (receiver_tag f arguments)) (length h.locks) h (λ u v m. means_thrown v t.lo (length h.locks) h usage (receiver_tag f arguments) u m)

  -- ---- the lock that field k holds changes
  module _ (n : Stand x own set_of p) (by : By) (arguments : Args) (given : Gives) (k : LockNo) (i : ℕ) (e : receiver_tag n.f arguments ≡ tag.Field k) (c : cell n.h k.0 ≡ Some i) where
    open n use {h, ok, f, rest, t}

    abbrev number : ℕ
    number = slot_count x

    abbrev here : Here
    here = here_of x p.at h f rest

    abbrev row : List Tag
    row = row_of x own set_of p f

    abbrev with_lock : Lock → Heap
    with_lock y = record { cells = h.cells; locks = set h.locks i y }

    longer : (y : Lock) → length h.locks ≤ length (with_lock y).locks
    longer y = omega (arith, length-set h.locks i y)

    -- another count
    counted_keeps : (y : Lock) → y.owner ≡ (lock_at h i).owner → KeepsBut (only_at k.0) t.lo (length h.locks) (length (with_lock y).locks) h (with_lock y)
    counted_keeps y o = record {
      more = longer y;
      loose = λ j a b l. changed_loose number h k.0 i y ok c o j l;
      cells = λ l off. cell_same h (set h.locks i y) l;
      held = λ l off. held_same h (with_lock y) (cell h l) (λ j is. ap (λ (z : Lock). z.count) (changed_apart number h k.0 i y ok c o l j (eqb-false l k.0 off) is));
    }

    lock_spares : (y : Lock) → y.owner ≡ (lock_at h i).owner → Spares x f.method t.lo h (with_lock y)
    lock_spares y o = record { more = longer y; loose = λ j from below l. changed_loose number h k.0 i y ok c o j l; cells = λ l off. cell_same h (set h.locks i y) l }

    counted_tags : (y : Lock) → y.owner ≡ (lock_at h i).owner → AreTagged (map (held_change (receiver_tag f arguments)) row) f.registers t.lo (length (with_lock y).locks) (with_lock y)
    counted_tags y o =
        tagged_map row f.registers t.lo (length h.locks) h t.registers (held_change (receiver_tag f arguments)) (length (with_lock y).locks) (with_lock y)
        (λ u v m. subst (λ (q : Tag). Means (held_change q u) v t.lo (length (with_lock y).locks) (with_lock y)) (sym e) (means_counted t.lo (length h.locks) (length (with_lock y).locks) h (with_lock y) k (counted_keeps y o) (λ l. cell_same h (set h.locks i y) l) u v m))

    -- the mask of a column
    by_column : (y : Lock) → y.owner ≡ (lock_at h i).owner → (column : ℕ → ℕ) → in_mask (column (status_of (is_lost h k.0) (some (lock_at h i).count (lock_at h i).counted))) (status_of (is_lost h k.0) (some y.count y.counted)) ≡ true
        → in_mask (lock_call_passes column (nullness own (receiver_tag f arguments)) (status h own)) (status (with_lock y) own) ≡ true
    by_column y o column table =
        subst (λ (q : Tag). in_mask (lock_call_passes column (nullness own q) (status h own)) (status (with_lock y) own) ≡ true) (sym e)
        (column_ok own h (with_lock y) k column i y.count y.counted c (changed_status number h k.0 i y ok c o) (λ ne. changed_other number h k.0 i y ok c o own ne) table)

    abbrev recounted : ℕ → Lock
    recounted n = record { owner = (lock_at h i).owner; count = n; counted = (lock_at h i).counted; site = (lock_at h i).site }

    acquire_step : act_at x.app f.method f.index ≡ Some (Call by Acquire arguments given) → EachWay (IsInside x own set_of) (operation_options here ops.Acquire arguments i)
    acquire_step is =
        let count = (lock_at h i).count in
        let y = recounted (suc count) in
        (answer_ok n by arguments given (with_lock y) Acquire Zero is (changed_ok number h k.0 i y ok c refl) (lock_spares y refl) (by_column y refl acquire_passes (acquire_ok (is_lost h k.0) count (lock_at h i).counted)) (counted_tags y refl) refl, tt)

    release_answers : act_at x.app f.method f.index ≡ Some (Call by Release arguments given) → (count : ℕ) → in_mask (release_passes (status_of (is_lost h k.0) (some (lock_at h i).count (lock_at h i).counted))) (status_of (is_lost h k.0) (some count (lock_at h i).counted)) ≡ true
        → EachWay (IsInside x own set_of) (Single (answers (with_heap here (with_count h i count)) Zero))
    release_answers is count table =
        let y = recounted count in
        (answer_ok n by arguments given (with_lock y) Release Zero is (changed_ok number h k.0 i y ok c refl) (lock_spares y refl) (by_column y refl release_passes table) (counted_tags y refl) refl, tt)

    release_by : act_at x.app f.method f.index ≡ Some (Call by Release arguments given) → (b : Bool) (n : ℕ) → (lock_at h i).counted ≡ b → (lock_at h i).count ≡ n → EachWay (IsInside x own set_of) (release_options here i b n)
    release_by is true zero b z =
        throws_ok x own set_of p n (Call by Release arguments given) is
        (subst (λ (q : Tag). in_mask (lock_call_throws release_throws (nullness own q) (status h own)) (status h own) ≡ true) (sym e)
        (by_own (k.0 == own) (λ n. lock_call_throws release_throws n (status h own)) (status h own)
        (λ same.
        (let holds : cell h own ≡ Some i = ap (cell h) (sym (eqb-true k.0 own same)) ∙ c in
        let now : status h own ≡ status_of (is_lost h own) (some 0 true) = status_at h own (Some i) holds ∙ ap (λ m. status_of (is_lost h own) (some m (lock_at h i).counted)) z ∙ ap (λ d. status_of (is_lost h own) (some 0 d)) b in
        rw now (release_zero (is_lost h own))))
        (only_status h own)))
        (thrown_ok n by arguments given Release)
    release_by is true (suc n) b z = release_answers is n (rw (b, z) (release_ok (is_lost h k.0) n))
    release_by is false n b z = release_answers is 0 (rw (b, z) (release_all_ok (is_lost h k.0) n))

    is_held_step : act_at x.app f.method f.index ≡ Some (Call by IsHeld arguments given) → EachWay (IsInside x own set_of) (operation_options here ops.IsHeld arguments i)
    is_held_step is =
        let answer = held_value (lock_at h i).count in
        let table = is_held_ok (is_lost h k.0) (lock_at h i).count (lock_at h i).counted in
        let mask = subst (λ (q : Tag). in_mask (lock_call_passes is_held_passes (nullness own q) (status h own)) (status h own) ≡ true) (sym e) (column_ok own h h k is_held_passes i (lock_at h i).count (lock_at h i).counted c (status_at h k.0 (Some i) c) (λ ne. refl) table) in
        let means = subst (λ (q : Tag). Means (held_tag q) answer t.lo (length h.locks) h) (sym e) (ap (held_in h) (sym c)) in
        (answer_ok n by arguments given h IsHeld answer is ok (spares_all x f.method t.lo h) mask (thrown_ok n by arguments given IsHeld) means, tt)

    -- ---- setReferenceCounted
    abbrev remade : Bool → Lock
    remade b = record { owner = (lock_at h i).owner; count = (lock_at h i).count; counted = b; site = (lock_at h i).site }

    mode_keeps : (b : Bool) → KeepsBut nowhere t.lo (length h.locks) (length (with_lock (remade b)).locks) h (with_lock (remade b))
    mode_keeps b = record {
      more = longer (remade b);
      loose = λ j a below l. changed_loose number h k.0 i (remade b) ok c refl j l;
      cells = λ l off. cell_same h (set h.locks i (remade b)) l;
      held = λ l off. held_same h (with_lock (remade b)) (cell h l) (λ j is. changed_count number h k.0 i (remade b) ok c refl refl j);
    }

    mode_step : act_at x.app f.method f.index ≡ Some (Call by Mode arguments given) → (o : Option Value) → register f (argument_of arguments) ≡ o → EachWay (IsInside x own set_of) (mode_options here i o)
    mode_step is None there = (tt, tt)
    mode_step is (Some v) there =
        let y = remade (not (is_null v)) in
        let means = tagged_read row f.registers t.lo (length h.locks) h t.registers (argument_of arguments) v there in
        let table = mode_ok own t.lo (length h.locks) h (argument_tag f arguments) v means (is_lost h k.0) (lock_at h i).count (lock_at h i).counted in
        let tags = tagged_map row f.registers t.lo (length h.locks) h t.registers (call_change Mode (receiver_tag f arguments)) (length (with_lock y).locks) (with_lock y) (λ u w m. means_kept t.lo (length h.locks) (length (with_lock y).locks) h (with_lock y) (mode_keeps (not (is_null v))) u w m) in
        (answer_ok n by arguments given (with_lock y) Mode Zero is (changed_ok number h k.0 i y ok c refl) (lock_spares y refl) (by_column y refl (mode_passes (argument_tag f arguments)) table) tags refl, tt)

    -- ---- what a call does as a lock call
    own_operation_ok : (usage : LockUse) → act_at x.app f.method f.index ≡ Some (Call by usage arguments given) → IfSome (op_of usage) (λ op. EachWay (IsInside x own set_of) (operation_options here op arguments i))
    own_operation_ok Acquire is = acquire_step is
    own_operation_ok Release is = release_by is (lock_at h i).counted (lock_at h i).count refl refl
    own_operation_ok IsHeld is = is_held_step is
    own_operation_ok Mode is = mode_step is (register f (argument_of arguments)) refl
    own_operation_ok Plain is = tt
    own_operation_ok Make is = tt
    own_operation_ok Wrong is = tt

    pub operation_ok : (usage : LockUse) (op : LockOp) → op_of usage ≡ Some op → act_at x.app f.method f.index ≡ Some (Call by usage arguments given) → EachWay (IsInside x own set_of) (operation_options here op arguments i)
    operation_ok usage op e is = subst (λ (o : Option LockOp). IfSome o (λ q. EachWay (IsInside x own set_of) (operation_options here q arguments i))) e (own_operation_ok usage is)
