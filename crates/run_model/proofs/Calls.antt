-- Calls keep the relation.
use Rattle.std.proofs.Common.{◌≡◌, ℕ, suc, Bool, true, false, if◌then◌else◌, List, [], ◌∷◌, ◌++◌, length, Option, Some, None, slice_get, refl, sym, ap, ◌∙◌, arith, subst, length-append}
use Rattle.std.specs.Prelude.{◌&&◌, nat_le, is_some, IfSome}
use Rattle.std.proofs.lemmas.Bool.{and_parts, and_from, or_parts, or_right, false≢true}
use Rattle.dalvik.specs.declared.ins.Args.{Args}
use Rattle.app_model.specs.declared.tag.Tag.{Tag}
use Rattle.app_model.specs.declared.tag.Tag.TheVariants as tag
use Rattle.app_model.specs.declared.lock_use.LockUse.{LockUse}
use Rattle.app_model.specs.declared.lock_use.LockUse.TheVariants.{Plain, Make, Acquire, Release, IsHeld, Mode, Wrong}
use Rattle.app_model.specs.Words.{named_at}
use Rattle.app_model.specs.declared.calls.By.{By}
use Rattle.app_model.specs.declared.calls.By.TheVariants.{Virtual, Super, Direct, Static}
use Rattle.act_model.specs.declared.act.Gives.{Gives}
use Rattle.act_model.specs.declared.act.LockOp.{LockOp}
use Rattle.act_model.specs.declared.act.LockOp.TheVariants as ops
use Rattle.flow_model.specs.declared.passes.Nullness.{Nullness}
use Rattle.flow_model.specs.declared.passes.Nullness.TheVariants.{NotNull}
use Rattle.flow_model.specs.Status.{only}
use Rattle.flow_model.proofs.MaskLaws.{IsIn-or_right}
use Rattle.act_model.specs.declared.act.Act.{Act}
use Rattle.act_model.specs.declared.act.Act.TheVariants.{Call}
use Rattle.dalvik.specs.Calls.{receiver_of, argument_of, arg_at, args_len}
use Rattle.act_model.specs.Acts.{act_at, op_of}
use Rattle.act_model.specs.Entries.{call_words}
use Rattle.dalvik.specs.Registers.{args_of}
use Rattle.flow_model.specs.Subject.{is_open, open_by}
use Rattle.act_model.specs.Changes.{tag_in, call_change, given_tag}
use Rattle.flow_model.specs.Derived.{Set}
use Rattle.app_model.specs.Sites.{site_at}
use Rattle.app_model.specs.Masks.{in_mask, any_below}
use Rattle.flow_model.specs.Passes.{has_receiver, is_instance, is_lock_call, passes_null, passes_outside, receiver_nullness, throws, throws_outside}
use Rattle.flow_model.specs.Scope.{call_escapes, escapes_as_receiver, is_escape, may_be_lock, passes_lock}
use Rattle.app_model.specs.Subject.{SubjectParts, slot_count}
use Rattle.app_model.specs.CallGraph.{targets_at}
use Rattle.run_model.proofs.Targets.{invoked, target_fits}
use Rattle.run_model.specs.Heaps.{Value, Zero, Nonzero, Object, LockRef, Heap, Lock, cell, is_owned, lock_at, new_lock, status, with_new}
use Rattle.run_model.specs.Frames.{Frame, Here, Over, Stuck, Escape, register, answers, answers_of, here_of, throws_from}
use Rattle.run_model.specs.Calls.{is_lock_in, gives_lock, receiver_in, lacks_argument, Target, Enters, GoesOutside, IsStuck, lock_call_options, full_lock_call_options, operation_options, answer_options, invoke_options, outside_answers, plain_call_options, receiver_options, call_by_op, call_options, target_of, target_options, values_of}
use Rattle.run_model.specs.Soundness.{FitsTarget}
use Rattle.run_model.specs.Choices.{Single, ForEach}
use Rattle.run_model.specs.Relation.{AreTagged, IsInside, IsNew, Means}
use Rattle.flow_model.proofs.TestLaws.{some_below, below_some}
use Rattle.run_model.proofs.Members.{EachWay, each_map, each_then, way_if}
use Rattle.run_model.proofs.Heaps.{cell_same, grown_at, grown_last, grown_status, grown_heap, owned_there}
use Rattle.run_model.proofs.Meanings.{KeepsBut, nowhere, cell_of_lock, field_receiver, held_same, may_be, means_kept}
use Rattle.run_model.proofs.Registers.{tagged_map, tagged_read}
use Rattle.run_model.proofs.Entries.{AreMeant, answers_ok}
use Rattle.run_model.proofs.Masks.{passes_full, outside_throws_full, zero_throws}
use Rattle.run_model.proofs.LockCalls.{answer_ok, argument_tag, operation_ok, receiver_tag, thrown_ok}
use Rattle.run_model.proofs.Callers.{Spares, spares_all}
use Rattle.run_model.proofs.Entering.{enters_ok, first_register, instance_handed, none_given, words_handed}
use Rattle.run_model.proofs.Steps.{Premises, Stand, only_status, out_of, row_of, throws_ok}

any_weaker : (f g : ℕ → Bool) (n : ℕ) → ((k : ℕ) → f k ≡ true → g k ≡ true) → any_below f n ≡ true → any_below g n ≡ true
any_weaker f g n w h = let r = some_below f n h in below_some g n r.0 r.1 (w r.0 r.2)

-- a register that holds a lock may hold one by its tag
lock_tag : (row : List Tag) (values : List Value) (lo hi : ℕ) (h : Heap) → AreTagged row values lo hi h → (r : ℕ) (o : Option Value) → slice_get values r ≡ o → is_lock_in o ≡ true → may_be_lock (tag_in row r) ≡ true
lock_tag row values lo hi h tagged r None there is = absurd (false≢true is)
lock_tag row values lo hi h tagged r (Some v) there is = may_be (tag_in row r) v lo hi h (tagged_read row values lo hi h tagged r v there) is

-- an argument that is a lock may be one by its tag
pub given_by_tag : (row : List Tag) (f : Frame) (lo hi : ℕ) (h : Heap) → AreTagged row f.registers lo hi h → (arguments : Args) (from : ℕ) → gives_lock f arguments from ≡ true → passes_lock row arguments from ≡ true
given_by_tag row f lo hi h tagged arguments from g =
    any_weaker (λ k. nat_le from k && is_lock_in (register f (arg_at arguments k))) (λ k. nat_le from k && may_be_lock (tag_in row (arg_at arguments k))) (args_len arguments)
    (λ k both. (let b = and_parts (nat_le from k) (is_lock_in (register f (arg_at arguments k))) both in and_from (nat_le from k) (may_be_lock (tag_in row (arg_at arguments k))) b.0 (lock_tag row f.registers lo hi h tagged (arg_at arguments k) (register f (arg_at arguments k)) refl b.1))) g

has_argument : (o : Option Value) → lacks_argument ops.Mode o ≡ false → (v : Value) × (o ≡ Some v)
has_argument None e = cc
has_argument (Some v) e = (v, refl)

-- the argument of setReferenceCounted is there
mode_argument : (usage : LockUse) (op : LockOp) (o : Option Value) → op_of usage ≡ Some op → lacks_argument op o ≡ false → usage ≡ Mode → (v : Value) × (o ≡ Some v)
mode_argument usage op o e full mode =
    let some : Some op ≡ Some ops.Mode = sym e ∙ ap op_of mode in
    let is : op ≡ ops.Mode = cc in
    has_argument o (subst (λ (q : LockOp). lacks_argument q o ≡ false) is full)

escapes_by_argument : (b : Bool) (row : List Tag) (arguments : Args) → b ≡ true → call_escapes b row arguments ≡ false → passes_lock row arguments 1 ≡ false
escapes_by_argument true row arguments e no_escape = (or_parts (escapes_as_receiver (tag_in row (receiver_of arguments))) (passes_lock row arguments 1) no_escape).1
escapes_by_argument false row arguments e no_escape = cc

escapes_by_receiver : (b : Bool) (row : List Tag) (arguments : Args) → b ≡ true → call_escapes b row arguments ≡ false → escapes_as_receiver (tag_in row (receiver_of arguments)) ≡ false
escapes_by_receiver true row arguments e no_escape = (or_parts (escapes_as_receiver (tag_in row (receiver_of arguments))) (passes_lock row arguments 1) no_escape).0
escapes_by_receiver false row arguments e no_escape = cc

escapes_outside : (b : Bool) (row : List Tag) (arguments : Args) → b ≡ false → call_escapes b row arguments ≡ false → passes_lock row arguments 0 ≡ false
escapes_outside true row arguments e no_escape = cc
escapes_outside false row arguments e no_escape = no_escape

-- every lock call has a receiver, and so has every call of an instance
lock_receiver : (usage : LockUse) (by : By) → is_lock_call usage ≡ true → has_receiver usage by ≡ true
lock_receiver usage by is = rw is refl

instance_receiver : (usage : LockUse) (by : By) → is_instance by ≡ true → has_receiver usage by ≡ true
instance_receiver usage by is = or_right (is_lock_call usage) (is_instance by) is

module _ (x : SubjectParts) (own : ℕ) (set_of : Set) (p : Premises x own set_of) where
  abbrev here : Heap → Frame → List Frame → Here
  here h f rest = here_of x p.at h f rest

  -- no null is called: the call passes, and throws by choice, where it leads outside
  module _ (h : Heap) where
    pub record IsFull (n : Nullness) : Type 0 where
      pub passes : in_mask (passes_null n (status h own)) (status h own) ≡ true
      pub throws : in_mask (throws_outside true n (status h own)) (status h own) ≡ true

    full_none : IsFull NotNull
    full_none = record { passes = only_status h own; throws = IsIn-or_right 0 (only (status h own)) (status h own) (only_status h own) }

    full_object : (there : Bool) (q : Tag) (lo hi : ℕ) (type : Option ℕ) → Means q (Object type) lo hi h → IsFull (receiver_nullness there own q)
    full_object true q lo hi type m = record { passes = passes_full own lo hi h q (Object type) refl m; throws = outside_throws_full own lo hi h q (Object type) refl m }
    full_object false q lo hi type m = full_none

  -- what a call that goes outside answers, where no null is called
  module _ (n : Stand x own set_of p) (by : By) (arguments : Args) (given : Gives) (out : out_of x own set_of p n.f ≡ true) where
    open n use {h, ok, f, rest, t}

    abbrev pub nullness_of : LockUse → Nullness
    nullness_of usage = receiver_nullness (has_receiver usage by) own (receiver_tag x own set_of p f arguments)

    by_outside : (P : Bool → Type 0) → P true → P (out_of x own set_of p f)
    by_outside P ok = subst P (sym out) ok

    plain_ok : IsFull h (nullness_of Plain) → act_at x.app f.method f.index ≡ Some (Call by Plain arguments given) → EachWay (IsInside x own set_of) (ForEach (answers_of x.app given) (answers (here h f rest)))
    plain_ok full is =
        let mask = by_outside (λ (b : Bool). in_mask (passes_outside b (nullness_of Plain) (status h own)) (status h own) ≡ true) full.passes in
        each_map (λ v. Means (given_tag given) v t.lo (length h.locks) h) (IsInside x own set_of) (answers (here h f rest))
        (λ v means. answer_ok x own set_of p n by arguments given h Plain v is ok (spares_all x f.method t.lo h) mask (thrown_ok x own set_of p n by arguments given Plain) means) (answers_of x.app given) (answers_ok x.app given t.lo (length h.locks) h)

    wrong_ok : IsFull h (nullness_of Wrong) → act_at x.app f.method f.index ≡ Some (Call by Wrong arguments given) → EachWay (IsInside x own set_of) (ForEach (answers_of x.app given) (answers (here h f rest)))
    wrong_ok full is =
        each_map (λ v. Means (given_tag given) v t.lo (length h.locks) h) (IsInside x own set_of) (answers (here h f rest))
        (λ v means. answer_ok x own set_of p n by arguments given h Wrong v is ok (spares_all x f.method t.lo h) full.passes (thrown_ok x own set_of p n by arguments given Wrong) means) (answers_of x.app given) (answers_ok x.app given t.lo (length h.locks) h)

    -- a new lock
    abbrev site : ℕ
    site = site_at x.app f.method f.index

    abbrev grown : Heap
    grown = with_new h site

    one_more : length grown.locks ≡ suc (length h.locks)
    one_more = length-append h.locks (new_lock site ∷ []) ∙ omega arith

    make_keeps : KeepsBut nowhere t.lo (length h.locks) (length grown.locks) h grown
    make_keeps = record {
      more = omega (arith, one_more);
      loose = λ i from below loose. grown_at h site i below;
      cells = λ l off. cell_same h (h.locks ++ new_lock site ∷ []) l;
      held = λ l off. held_same h grown (cell h l) (λ i is. ap (λ (y : Lock). y.count) (grown_at h site i (owned_there h i l (ok.cell l i is))));
    }

    make_spares : Spares x f.method t.lo h grown
    make_spares = record {
      more = omega (arith, one_more);
      loose = λ i from below free. grown_at h site i (omega (arith, below, t.from));
      cells = λ l off. cell_same h (h.locks ++ new_lock site ∷ []) l;
    }

    made : IsNew site (LockRef (length h.locks)) t.lo (length grown.locks) grown
    made = record { i = length h.locks; is = refl; from = t.from; below = omega (arith, one_more); loose = ap (λ (y : Lock). y.owner) (grown_last h site); made = ap (λ (y : Lock). y.site) (grown_last h site) }

    make_ok : IsFull h (nullness_of Make) → act_at x.app f.method f.index ≡ Some (Call by Make arguments given) → EachWay (IsInside x own set_of) (answer_options (here h f rest) Make given)
    make_ok full is =
        let same = grown_status h site (slot_count x) ok own in
        let mask = subst (λ s. in_mask (passes_null (nullness_of Make) (status h own)) s ≡ true) (sym same) full.passes in
        let tags = tagged_map (row_of x own set_of p f) f.registers t.lo (length h.locks) h t.registers (call_change Make (receiver_tag x own set_of p f arguments)) (length grown.locks) grown (means_kept t.lo (length h.locks) (length grown.locks) h grown make_keeps) in
        (answer_ok x own set_of p n by arguments given grown Make (LockRef (length h.locks)) is (grown_heap h site (slot_count x) ok) make_spares mask tags made, tt)

    answer_options_ok : (usage : LockUse) → is_lock_call usage ≡ false → IsFull h (nullness_of usage) → act_at x.app f.method f.index ≡ Some (Call by usage arguments given) → EachWay (IsInside x own set_of) (answer_options (here h f rest) usage given)
    answer_options_ok Plain off full is = plain_ok full is
    answer_options_ok Wrong off full is = wrong_ok full is
    answer_options_ok Make off full is = make_ok full is
    answer_options_ok Acquire off full is = cc
    answer_options_ok Release off full is = cc
    answer_options_ok IsHeld off full is = cc
    answer_options_ok Mode off full is = cc

    -- and where it throws
    full_throws : (usage : LockUse) → is_lock_call usage ≡ false → IsFull h (nullness_of usage) → in_mask (throws own (Call by usage arguments given) (row_of x own set_of p f) (out_of x own set_of p f) (status h own)) (status h own) ≡ true
    full_throws Plain off full = by_outside (λ (b : Bool). in_mask (throws_outside b (nullness_of Plain) (status h own)) (status h own) ≡ true) full.throws
    full_throws Wrong off full = full.throws
    full_throws Make off full = full.throws
    full_throws Acquire off full = cc
    full_throws Release off full = cc
    full_throws IsHeld off full = cc
    full_throws Mode off full = cc

    pub outside_answers_ok : (usage : LockUse) → is_lock_call usage ≡ false → IsFull h (nullness_of usage) → act_at x.app f.method f.index ≡ Some (Call by usage arguments given) → EachWay (IsInside x own set_of) (outside_answers (here h f rest) usage given)
    outside_answers_ok usage off full is =
        each_then (IsInside x own set_of) (answer_options (here h f rest) usage given) (throws_from (here h f rest)) (answer_options_ok usage off full is)
        (throws_ok x own set_of p n (Call by usage arguments given) is (full_throws usage off full) (thrown_ok x own set_of p n by arguments given usage))

  module _ (n : Stand x own set_of p) (by : By) (usage : LockUse) (arguments : Args) (given : Gives) (is : act_at x.app n.f.method n.f.index ≡ Some (Call by usage arguments given)) where
    open n use {h, ok, f, rest, t}

    abbrev row : List Tag
    row = row_of x own set_of p f

    no_escape : call_escapes (is_lock_call usage) row arguments ≡ false
    no_escape = subst (λ (o : Option Act). is_escape o row ≡ false) is (p.tagged.no_escape f.method f.index t.reached)

    given_lock : (from : ℕ) → gives_lock f arguments from ≡ true → passes_lock row arguments from ≡ true
    given_lock from g = given_by_tag row f t.lo (length h.locks) h t.registers arguments from g

    receiver_means : (v : Value) → receiver_in f arguments ≡ Some v → Means (receiver_tag x own set_of p f arguments) v t.lo (length h.locks) h
    receiver_means v e = tagged_read row f.registers t.lo (length h.locks) h t.registers (receiver_of arguments) v (first_register f arguments v e)

    -- a call on null
    null_ok : has_receiver usage by ≡ true → receiver_in f arguments ≡ Some Zero → (usage ≡ Mode → (v : Value) × (register f (argument_of arguments) ≡ Some v)) → EachWay (IsInside x own set_of) (throws_from (here h f rest))
    null_ok there e has =
        let q = receiver_tag x own set_of p f arguments in
        let a = argument_tag x own set_of p f arguments in
        let mask = zero_throws own t.lo (length h.locks) h (out_of x own set_of p f) usage q a (receiver_means Zero e)
        (λ mode. (let a = has mode in (a.0, tagged_read row f.registers t.lo (length h.locks) h t.registers (argument_of arguments) a.0 a.1))) in
        throws_ok x own set_of p n (Call by usage arguments given) is
        (rw there mask)
        (thrown_ok x own set_of p n by arguments given usage)

    -- ---- lock calls
    lock_ok : (op : LockOp) → op_of usage ≡ Some op → (i : ℕ) → receiver_in f arguments ≡ Some (LockRef i) → EachWay (IsInside x own set_of) (if is_owned (lock_at h i).owner then operation_options (here h f rest) op arguments i else Single (Over Escape))
    lock_ok op does i e =
        let means = receiver_means (LockRef i) e in
        let field = field_receiver (receiver_tag x own set_of p f arguments) i t.lo (length h.locks) h means (escapes_by_receiver (is_lock_call usage) row arguments (ap is_some does) no_escape) in
        let k = field.0 in
        let means_field : Means (tag.Field k) (LockRef i) t.lo (length h.locks) h = subst (λ (q : Tag). Means q (LockRef i) t.lo (length h.locks) h) field.1 means in
        let c : cell h k.0 ≡ Some i = cell_of_lock (cell h k.0) i means_field in
        let owned : is_owned (lock_at h i).owner ≡ true = ap is_owned (ok.cell k.0 i c) in
        way_if (IsInside x own set_of) (is_owned (lock_at h i).owner) (operation_options (here h f rest) op arguments i) (Single (Over Escape))
        (λ _. operation_ok x own set_of p n by arguments given k i field.1 c usage op does is)
        (λ loose. absurd (false≢true (sym loose ∙ owned)))

    lock_call_ok : (op : LockOp) → op_of usage ≡ Some op → lacks_argument op (register f (argument_of arguments)) ≡ false → (o : Option Value) → receiver_in f arguments ≡ o → EachWay (IsInside x own set_of) (lock_call_options (here h f rest) op arguments o)
    lock_call_ok op does full None e = (tt, tt)
    lock_call_ok op does full (Some Zero) e = null_ok (lock_receiver usage by (ap is_some does)) e (mode_argument usage op (register f (argument_of arguments)) does full)
    lock_call_ok op does full (Some Nonzero) e = (tt, tt)
    lock_call_ok op does full (Some (Object type)) e = (tt, tt)
    lock_call_ok op does full (Some (LockRef i)) e = lock_ok op does i e

    -- ---- other calls
    no_lock_argument : is_lock_call usage ≡ false → Mode ≡ usage → ⊥
    no_lock_argument off e = absurd (false≢true (sym off ∙ ap is_lock_call (sym e)))

    -- the words of the call, as the tags of its callee's entry say
    abbrev AreHandedOn : Type 0
    AreHandedOn = IfSome (values_of f (args_of arguments)) (AreMeant (length h.locks) (length h.locks) h (call_words by row arguments))

    fits : (type : Option ℕ) → FitsTarget (targets_at x.graph f.method f.index) (target_of x.app f.method by usage (named_at x.app f.method f.index) type)
    fits type = target_fits x f.method f.index by usage arguments given (p.tagged.graph f.method f.index t.reached (ap is_some (invoked x.app f.method f.index by usage arguments given is).is)) is type

    target_ok : IsFull h (receiver_nullness (has_receiver usage by) own (receiver_tag x own set_of p f arguments)) → is_lock_call usage ≡ false → AreHandedOn → (to : Target) → FitsTarget (targets_at x.graph f.method f.index) to
        → EachWay (IsInside x own set_of) (target_options (here h f rest) usage arguments given to)
    target_ok full off handed (Enters m) callee = (enters_ok x own set_of p n by usage arguments given is m callee opened (values_of f (args_of arguments)) handed, tt)
      where
        opened : is_open x own f.method f.index (status h own) ≡ true
        opened = subst (λ (o : Option Act). open_by own o row (status h own) ≡ true) (sym is) full.passes
    target_ok full off handed GoesOutside out = outside_answers_ok n by arguments given out usage off full is
    target_ok full off handed IsStuck c = (tt, tt)

    static_ok : is_instance by ≡ false → is_lock_call usage ≡ false → AreHandedOn → EachWay (IsInside x own set_of) (invoke_options (here h f rest) by usage arguments given None)
    static_ok form off handed = target_ok (rw (off, form) (full_none h)) off handed _ (fits None)

    receiver_ok : is_lock_call usage ≡ false → has_receiver usage by ≡ true → ((type : Option ℕ) → receiver_in f arguments ≡ Some (Object type) → AreHandedOn) → (o : Option Value) → receiver_in f arguments ≡ o
        → EachWay (IsInside x own set_of) (receiver_options (here h f rest) by usage arguments given o)
    receiver_ok off there handed None e = (tt, tt)
    receiver_ok off there handed (Some Zero) e = null_ok there e (λ mode. absurd (no_lock_argument off (sym mode)))
    receiver_ok off there handed (Some Nonzero) e = (tt, tt)
    receiver_ok off there handed (Some (LockRef i)) e = (tt, tt)
    receiver_ok off there handed (Some (Object type)) e =
        target_ok (full_object h (has_receiver usage by) _ t.lo (length h.locks) type (receiver_means (Object type) e)) off (handed type e) _ (fits type)

  plain_call_ok : (n : Stand x own set_of p) (by : By) (usage : LockUse) (arguments : Args) (given : Gives) → act_at x.app n.f.method n.f.index ≡ Some (Call by usage arguments given)
      → is_lock_call usage ≡ false → gives_lock n.f arguments 0 ≡ false → EachWay (IsInside x own set_of) (plain_call_options (here n.h n.f n.rest) by usage arguments given)
  plain_call_ok n Static usage arguments given is off free =
      static_ok n Static usage arguments given is refl off (words_handed x own set_of p n (args_of arguments) (none_given n.f arguments free))
  plain_call_ok n Virtual usage arguments given is off free =
      receiver_ok n Virtual usage arguments given is off (instance_receiver usage Virtual refl) (λ type e. instance_handed x own set_of p n type (args_of arguments) e (none_given n.f arguments free)) (receiver_in n.f arguments) refl
  plain_call_ok n Super usage arguments given is off free =
      receiver_ok n Super usage arguments given is off (instance_receiver usage Super refl) (λ type e. instance_handed x own set_of p n type (args_of arguments) e (none_given n.f arguments free)) (receiver_in n.f arguments) refl
  plain_call_ok n Direct usage arguments given is off free =
      receiver_ok n Direct usage arguments given is off (instance_receiver usage Direct refl) (λ type e. instance_handed x own set_of p n type (args_of arguments) e (none_given n.f arguments free)) (receiver_in n.f arguments) refl

  module _ (n : Stand x own set_of p) (by : By) (usage : LockUse) (arguments : Args) (given : Gives) (is : act_at x.app n.f.method n.f.index ≡ Some (Call by usage arguments given)) where
    open n use {h, ok, f, rest, t}

    by_op_ok : (o : Option LockOp) → op_of usage ≡ o → EachWay (IsInside x own set_of) (call_by_op (here h f rest) by usage arguments given o)
    by_op_ok (Some op) does =
        way_if (IsInside x own set_of) (gives_lock f arguments 1) (Single (Over Escape)) (full_lock_call_options (here h f rest) op arguments)
        (λ g. absurd (false≢true (sym (escapes_by_argument (is_lock_call usage) (row_of x own set_of p f) arguments (ap is_some does) (no_escape n by usage arguments given is)) ∙ given_lock n by usage arguments given is 1 g)))
        (λ _. way_if (IsInside x own set_of) (lacks_argument op (register f (argument_of arguments))) (Single (Over Stuck)) (lock_call_options (here h f rest) op arguments (receiver_in f arguments))
        (λ _. (tt, tt))
        (λ full. lock_call_ok n by usage arguments given is op does full (receiver_in f arguments) refl))
    by_op_ok None does =
        let off : is_lock_call usage ≡ false = ap is_some does in
        way_if (IsInside x own set_of) (gives_lock f arguments 0) (Single (Over Escape)) (plain_call_options (here h f rest) by usage arguments given)
        (λ g. absurd (false≢true (sym (escapes_outside (is_lock_call usage) (row_of x own set_of p f) arguments off (no_escape n by usage arguments given is)) ∙ given_lock n by usage arguments given is 0 g)))
        (λ free. plain_call_ok n by usage arguments given is off free)

    pub call_ok : EachWay (IsInside x own set_of) (call_options (here h f rest) by usage arguments given)
    call_ok = by_op_ok (op_of usage) refl
