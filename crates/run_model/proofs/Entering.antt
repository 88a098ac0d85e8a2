-- A call enters a method: its frame begins as the tags of its entry say, above that of the call, which waits.
use Rattle.std.proofs.Common.{◌≡◌, ℕ, zero, suc, ◌+◌, ◌<◌, Bool, true, false, List, [], ◌∷◌, length, Option, Some, None, slice_get, refl, sym, ap, ◌∙◌, inl, arith, subst, take, drop}
use Rattle.std.specs.Prelude.{Contains, IfSome, nat_le, ◌&&◌, slice_index}
use Rattle.std.specs.List.{range_with_len}
use Rattle.std.proofs.lemmas.Bool.{and_from, false≢true}
use Rattle.std.proofs.lemmas.Bool.Decides.{nat_tests}
use Rattle.dalvik.specs.declared.ins.Args.{Args}
use Rattle.dalvik.specs.declared.ins.Args.TheVariants as args
use Rattle.dalvik.specs.Calls.{arg_at, args_len, receiver_of}
use Rattle.dalvik.specs.Registers.{args_of}
use Rattle.app_model.specs.declared.calls.By.{By}
use Rattle.app_model.specs.declared.lock_use.LockUse.{LockUse}
use Rattle.app_model.specs.declared.rows.MethodRow.{MethodRow}
use Rattle.app_model.specs.declared.tag.Tag.{Tag}
use Rattle.app_model.specs.declared.tag.Tag.TheVariants as tag
use Rattle.app_model.specs.Subject.{SubjectParts, callees_at, row_at}
use Rattle.app_model.specs.Targets.{method_no}
use Rattle.act_model.specs.declared.act.Act.TheVariants.{Call}
use Rattle.act_model.specs.declared.act.Gives.{Gives}
use Rattle.act_model.specs.Acts.{act_at}
use Rattle.act_model.specs.Changes.{called_change, tag_in}
use Rattle.act_model.specs.Entries.{call_words, entering, entering_words}
use Rattle.flow_model.specs.Derived.{Set}
use Rattle.flow_model.specs.Rules.{C1}
use Rattle.flow_model.specs.Subject.{is_open}
use Rattle.flow_model.specs.TagFlow.{callee_row}
use Rattle.flow_model.proofs.TestLaws.{below_some}
use Rattle.run_model.specs.Heaps.{Value, Object, status}
use Rattle.run_model.specs.Frames.{Frame, Running, here_of, register}
use Rattle.run_model.specs.Calls.{enters, entered_frame, entry_values, first_in, gives_lock, is_lock_in, values_of, with_word}
use Rattle.run_model.specs.Relation.{AreTagged, Each, IsInside, IsWaiting, Means}
use Rattle.run_model.specs.Tagged.{IsFollowed}
use Rattle.run_model.proofs.Callers.{called_meant}
use Rattle.run_model.proofs.Entries.{AreMeant, meant_entry, meant_tagged}
use Rattle.run_model.proofs.Meanings.{handed_on}
use Rattle.run_model.proofs.Registers.{tagged_map, tagged_read, tagged_under}
use Rattle.run_model.proofs.Steps.{Premises, Stand, live, row_of}

-- ---- the registers of a call, by their numbers
module _ (P : ℕ → Type 0) where
  taken : (n : ℕ) (rs : List ℕ) → ((k : ℕ) → k < n → P (slice_index rs k)) → Each P (take n rs)
  taken zero rs each = tt
  taken (suc n) [] each = tt
  taken (suc n) (r ∷ rs) each = (each 0 (omega arith), taken n rs (λ k below. each (suc k) (omega (arith, below))))

  ranged : (first n : ℕ) → ((k : ℕ) → k < n → P (first + k)) → Each P (range_with_len first n)
  ranged first zero each = tt
  ranged first (suc n) each = (
    subst P (let e : first + 0 ≡ first = omega arith in e) (each 0 (omega arith)),
    ranged (first + 1) n (λ k below. subst P (let e : first + suc k ≡ first + 1 + k = omega arith in e) (each (suc k) (omega (arith, below)))),
  )

  each_argument : (arguments : Args) → ((k : ℕ) → k < args_len arguments → P (arg_at arguments k)) → Each P (args_of arguments)
  each_argument (args.List count registers) each = taken count registers each
  each_argument (args.Range first count) each = ranged first count each

-- the receiver is the first of them
pub first_register : (f : Frame) (arguments : Args) (v : Value) → first_in f (args_of arguments) ≡ Some v → register f (receiver_of arguments) ≡ Some v
first_register f (args.List zero registers) v is = cc
first_register f (args.List (suc n) []) v is = cc
first_register f (args.List (suc n) (r ∷ rs)) v is = is
first_register f (args.Range first zero) v is = cc
first_register f (args.Range first (suc n)) v is = is

-- where no argument is a lock
abbrev NoLockIn : Frame → ℕ → Type 0
NoLockIn f r = is_lock_in (register f r) ≡ false

pub none_given : (f : Frame) (arguments : Args) → gives_lock f arguments 0 ≡ false → Each (NoLockIn f) (args_of arguments)
none_given f arguments free = each_argument (NoLockIn f) arguments (λ k below. by k below (is_lock_in (register f (arg_at arguments k))) refl)
  where
    by : (k : ℕ) → k < args_len arguments → (b : Bool) → is_lock_in (register f (arg_at arguments k)) ≡ b → is_lock_in (register f (arg_at arguments k)) ≡ false
    by k below false is = is
    by k below true is = absurd (false≢true (sym free ∙ below_some (λ k. nat_le 0 k && is_lock_in (register f (arg_at arguments k))) (args_len arguments) k below (and_from (nat_le 0 k) (is_lock_in (register f (arg_at arguments k))) (let least : nat_le 0 k ≡ true = grind (arith, nat_tests) in least) is)))

module _ (x : SubjectParts) (own : ℕ) (set_of : Set) (p : Premises x own set_of) (n : Stand x own set_of p) where
  open n use {h, ok, f, rest, t}

  abbrev row : List Tag
  row = row_of x own set_of p f

  abbrev locks : ℕ
  locks = length h.locks

  -- ---- the words of a call are as the tags say that a callee begins with
  abbrev AreHanded : List Tag → List Value → Type 0
  AreHanded ts words = AreMeant locks locks h ts words

  word_joins : (r : ℕ) (ts : List Tag) (q : Tag) → ((v : Value) → register f r ≡ Some v → Means q v locks locks h) → (o : Option Value) → register f r ≡ o → (words : Option (List Value)) → IfSome words (AreHanded ts)
      → IfSome (with_word o words) (AreHanded (q ∷ ts))
  word_joins r ts q means None there words meant = tt
  word_joins r ts q means (Some v) there None meant = tt
  word_joins r ts q means (Some v) there (Some words) meant = (means v there, meant)

  abbrev handed : (r : ℕ) → NoLockIn f r → (v : Value) → register f r ≡ Some v → Means (entering (tag_in row r)) v locks locks h
  handed r free v there = handed_on v t.lo locks locks h (tag_in row r) (sym (ap is_lock_in there) ∙ free) (tagged_read row f.registers t.lo locks h t.registers r v there)

  pub words_handed : (rs : List ℕ) → Each (NoLockIn f) rs → IfSome (values_of f rs) (AreHanded (entering_words row rs))
  words_handed [] free = tt
  words_handed (r ∷ rs) free = word_joins r (entering_words row rs) (entering (tag_in row r)) (handed r free.0) (register f r) refl (values_of f rs) (words_handed rs free.1)

  -- on an object
  pub instance_handed : (type : Option ℕ) (rs : List ℕ) → first_in f rs ≡ Some (Object type) → Each (NoLockIn f) rs → IfSome (values_of f rs) (AreHanded (tag.Solid ∷ entering_words row (drop 1 rs)))
  instance_handed type [] is free = cc
  instance_handed type (r ∷ rs) is free =
      word_joins r (entering_words row rs) tag.Solid (λ v there. (let same : Object type ≡ v = (let e : Some (Object type) ≡ Some v = sym is ∙ there in cc) in subst (λ (w : Value). Means tag.Solid w locks locks h) same tt)) (register f r) refl (values_of f rs) (words_handed rs free.1)

  -- ---- the frame that begins
  module _ (by : By) (usage : LockUse) (arguments : Args) (given : Gives) (is : act_at x.app f.method f.index ≡ Some (Call by usage arguments given)) (m : ℕ) (callee : Contains (callees_at x f.method f.index) (method_no m))
      (opened : is_open x own f.method f.index (status h own) ≡ true) where
    followed : IsFollowed x f.method f.index m
    followed = p.tagged.calls f.method f.index m t.reached (live x own set_of p n) callee

    waits : IsWaiting x own set_of h f m (status h own) locks t.e t.lo
    waits = record {
      from = t.from;
      reached = t.reached;
      at = t.at;
      callee = callee;
      opened = opened;
      gone = followed.gone;
      assigns = followed.assigns;
      registers = tagged_map row f.registers t.lo locks h t.registers (called_change followed.gone) locks h (λ q v means. called_meant followed.gone v t.lo locks h q means);
    }

    begins_tagged : (method : Option MethodRow) (words : List Value) → AreHanded (call_words by row arguments) words → AreTagged (callee_row method (call_words by row arguments)) (entry_values method words) locks locks h
    begins_tagged None words meant = meant_tagged locks locks h [] [] tt
    begins_tagged (Some method) words meant = meant_entry locks locks h method.registers method.ins (call_words by row arguments) words meant

    begins_ok : (words : List Value) → AreHanded (call_words by row arguments) words → IsInside x own set_of (Running p.at h (entered_frame m (entry_values (slice_get x.app.methods m) words) ∷ f ∷ rest))
    begins_ok words meant = record {
      edge = p.edge;
      root = p.root;
      s0 = p.s0;
      callback = p.callback;
      method = p.method;
      heap = ok;
      stack = record {
        e = status h own;
        lo = locks;
        from = omega arith;
        reached = followed.reached;
        at = p.closed.by _ _ (inl (C1 (method_no m) callee opened)) (t.at, tt);
        registers = tagged_under _ _ locks locks h (begins_tagged (slice_get x.app.methods m) words meant) (row_at x m 0) (followed.enters by usage arguments given is);
        below = (t.e, t.lo, waits, t.below);
      };
    }

    pub enters_ok : (words : Option (List Value)) → IfSome words (AreHanded (call_words by row arguments)) → IsInside x own set_of (enters (here_of x p.at h f rest) m words)
    enters_ok None meant = tt
    enters_ok (Some words) meant = begins_ok words meant
