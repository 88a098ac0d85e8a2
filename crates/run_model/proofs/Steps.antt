-- What carries every instruction: on to a successor, and a throw.
use Rattle.std.proofs.Common.{if◌then◌else◌, ◌≡◌, ℕ, pred, ap, ◌∙◌, false, ◌<◌, ◌≤◌, Bool, true, List, [], ◌∷◌, length, Option, Some, None, refl, sym, inl, ⊎_elim, arith, subst, slice_get}
use Rattle.std.proofs.lemmas.Bool.{cases_Bool}
use Rattle.dalvik.specs.declared.body.Place.{Place}
use Rattle.app_model.specs.declared.component.Edge.{Edge}
use Rattle.app_model.specs.declared.tag.Tag.{Tag}
use Rattle.app_model.specs.Components.{callback_at}
use Rattle.app_model.specs.Words.{place_at, successor_at, handler_at, handler_of, leaves_at}
use Rattle.act_model.specs.declared.act.Act.{Act}
use Rattle.act_model.specs.declared.act.Act.TheVariants.{Go, Test, Copy, TakeResult, Write, Fill, ReadSlot, WriteSlot, Give, Check, Throw, Return, Call}
use Rattle.act_model.specs.declared.act.Throws.{Throws}
use Rattle.act_model.specs.declared.act.Throws.TheVariants.{Never, ByChoice, WhereZero}
use Rattle.flow_model.proofs.MaskLaws.{IsIn-zero}
use Rattle.std.proofs.Common.{get_or}
use Rattle.act_model.specs.Acts.{act_at}
use Rattle.act_model.specs.Changes.{after, called, called_change, result_cell, thrown}
use Rattle.flow_model.specs.Derived.{Set, IsClosed}
use Rattle.app_model.specs.Sites.{site_at}
use Rattle.app_model.specs.Facts.{At, Exc, Ret}
use Rattle.app_model.specs.Masks.{in_mask}
use Rattle.flow_model.specs.Status.{only}
use Rattle.flow_model.specs.Passes.{passes, throws, throws_by}
use Rattle.flow_model.specs.Rules.{C2, C3, C3_leaves, Inner, I1, I2, I3, I3_leaves, entered}
use Rattle.app_model.specs.Subject.{SubjectParts, is_reached, outside_at, row_at, slot_count}
use Rattle.app_model.specs.Targets.{method_no}
use Rattle.std.specs.Prelude.{slice_set}
use Rattle.std.proofs.lemmas.Bool.{false≢true}
use Rattle.std.proofs.lemmas.List.{length-map}
use Rattle.app_model.specs.declared.lock_use.LockUse.TheVariants.{Plain}
use Rattle.act_model.specs.declared.act.Returned.{Returned}
use Rattle.app_model.proofs.Cells.{length-row_at}
use Rattle.flow_model.specs.Subject.{status_masks, own_operation, mask_passes, mask_throws}
use Rattle.run_model.specs.Heaps.{Value, Zero, Heap, status, is_lost, counter_at, cell}
use Rattle.run_model.specs.Frames.{Callback, Frame, answers, handlers_of, here_of, goes_to, goes_on, moves, result_index, throws_from, unwinds}
use Rattle.run_model.specs.Choices.{Empty, by_each}
use Rattle.run_model.specs.Relation.{AreTagged, Below, IsCallback, IsHeap, IsInside, IsTop, IsWaiting, Means}
use Rattle.run_model.specs.Tagged.{IsFollowed, IsTagged, IsUnder, is_plain_call}
use Rattle.flow_model.specs.TagFlow.{IsLive, answered, can_throw, leads_on, may_throw}
use Rattle.run_model.proofs.Members.{EachWay, each_by, each_then, way_if}
use Rattle.run_model.proofs.Rows.{only_ok}
use Rattle.run_model.proofs.Heaps.{status_is}
use Rattle.run_model.proofs.Registers.{tagged_set, tagged_under}
use Rattle.run_model.proofs.Meanings.{means_lower}
use Rattle.run_model.proofs.Callers.{Spares, below_kept, called_live, resumed, spares_all}

-- what the steps of a callback stand on
pub record Premises (x : SubjectParts) (own : ℕ) (set : Set) : Type 0 where
  pub tagged : IsTagged x
  pub closed : IsClosed (Inner x own (status_masks x own)) set
  pub at : Callback
  pub edge : Edge
  pub root : ℕ
  pub s0 : ℕ
  pub callback : IsCallback x set at edge s0
  pub method : callback_at x.list at.component edge.callback ≡ Some root

handler_numbered : (p : Option Place) (k i : ℕ) → slice_get (handlers_of p) k ≡ Some i → handler_of p k ≡ Some i
handler_numbered None k i e = e
handler_numbered (Some place) k i e = e

pub only_status : (h : Heap) (l : ℕ) → in_mask (only (status h l)) (status h l) ≡ true
only_status h l = rw (status_is h l) (only_ok (is_lost h l) (counter_at h (cell h l)))

module _ (x : SubjectParts) (own : ℕ) (set : Set) (p : Premises x own set) where
  -- the tags before a frame's instruction, and the status at which its callback was entered
  abbrev pub row_of : Frame → List Tag
  row_of f = row_at x f.method f.index

  -- whether a call there may lead outside
  abbrev pub out_of : Frame → Bool
  out_of f = outside_at x f.method f.index

  abbrev pub start_status : ℕ
  start_status = entered x own p.at.component p.edge p.s0

  abbrev pub Top : Heap → Frame → List Frame → Type 0
  Top h f rest = IsTop x own set p.root start_status h f rest

  -- where the machine stands in a callback: its heap, the frame that runs and the frames below that one
  pub record Stand : Type 0 where
    pub h : Heap
    pub ok : IsHeap (slot_count x) h
    pub f : Frame
    pub rest : List Frame
    pub t : Top h f rest

  -- what an instruction can do where a mask lets it
  leads : (a : Act) (row : List Tag) (out : Bool) (k s t : ℕ) → in_mask (passes own a row out k s) t ≡ true → leads_on a ≡ true
  leads Go row out k s t mask = refl
  leads (Throw object) row out k s t mask = absurd (IsIn-zero t mask)
  leads (Return answer) row out k s t mask = absurd (IsIn-zero t mask)
  leads _ row out k s t mask = refl

  -- a plain call leads on by itself only where it leads outside
  leads_out : (a : Act) (row : List Tag) (out : Bool) (k s t : ℕ) → in_mask (passes own a row out k s) t ≡ true → is_plain_call a ≡ true → out ≡ true
  leads_out (Call by Plain arguments given) row true k s t mask plain = refl
  leads_out (Call by Plain arguments given) row false k s t mask plain = absurd (IsIn-zero t mask)
  leads_out _ row out k s t mask plain = absurd (false≢true plain)

  throwing_by : (when : Throws) (row : List Tag) (s t : ℕ) → in_mask (throws_by own when row s) t ≡ true → may_throw when ≡ true
  throwing_by Never row s t mask = absurd (IsIn-zero t mask)
  throwing_by ByChoice row s t mask = refl
  throwing_by (WhereZero r) row s t mask = refl

  throwing : (a : Act) (row : List Tag) (out : Bool) (s t : ℕ) → in_mask (throws own a row out s) t ≡ true → can_throw a ≡ true
  throwing Go row out s t mask = absurd (IsIn-zero t mask)
  throwing (Test value way) row out s t mask = absurd (IsIn-zero t mask)
  throwing (Copy to from wide) row out s t mask = absurd (IsIn-zero t mask)
  throwing (TakeResult to) row out s t mask = absurd (IsIn-zero t mask)
  throwing (Write to what when) row out s t mask = throwing_by when row s t mask
  throwing (Fill arguments kind) row out s t mask = absurd (IsIn-zero t mask)
  throwing (ReadSlot to slot when) row out s t mask = throwing_by when row s t mask
  throwing (WriteSlot from slot when) row out s t mask = throwing_by when row s t mask
  throwing (Give from when) row out s t mask = throwing_by when row s t mask
  throwing (Check when) row out s t mask = throwing_by when row s t mask
  throwing (Throw object) row out s t mask = refl
  throwing (Return answer) row out s t mask = absurd (IsIn-zero t mask)
  throwing (Call by usage arguments given) row out s t mask = refl

  -- the fact at a successor
  next_at : (m e i s j t k : ℕ) (a : Act) → act_at x.app m i ≡ Some a → successor_at x.app m i k ≡ Some j → in_mask (passes own a (row_at x m i) (outside_at x m i) k s) t ≡ true → set (At m e i s) ≡ true → set (At m e j t) ≡ true
  next_at m e i s j t k a is next mask here =
      let by_act : in_mask (mask_passes own (act_at x.app m i) (row_at x m i) (outside_at x m i) k s) t ≡ true = subst (λ (o : Option Act). in_mask (mask_passes own o (row_at x m i) (outside_at x m i) k s) t ≡ true) (sym is) mask in
      ⊎_elim (λ own_one. p.closed.by _ _ (inl (I2 k own_one next by_act)) (here, tt)) (λ other. p.closed.by _ _ (inl (I1 k other next by_act)) (here, tt)) (cases_Bool (own_operation x own m i))

  -- ---- a frame of the stack, which runs or waits
  pub record IsSeated (h : Heap) (f : Frame) (rest : List Frame) (e lo : ℕ) : Type 0 where
    pub ok : IsHeap (slot_count x) h
    pub from : lo ≤ length h.locks
    pub reached : is_reached x f.method ≡ true
    pub below : Below x own set p.root start_status h rest f.method e lo

  -- it runs on at instruction j of its method, by a fact and tags that hold there
  runs_at : (h : Heap) (f : Frame) (rest : List Frame) (e lo j : ℕ) (values : List Value) (row : List Tag) → IsSeated h f rest e lo → AreTagged row values lo (length h.locks) h
      → set (At f.method e j (status h own)) ≡ true → IsUnder row (row_at x f.method j) → IsInside x own set (moves (here_of x p.at h f rest) values j)
  runs_at h f rest e lo j values row seat tagged at under = record {
    edge = p.edge;
    root = p.root;
    s0 = p.s0;
    callback = p.callback;
    method = p.method;
    heap = seat.ok;
    stack = record {
      e = e;
      lo = lo;
      from = seat.from;
      reached = seat.reached;
      at = at;
      registers = tagged_under row values lo (length h.locks) h tagged (row_at x f.method j) under;
      below = seat.below;
    };
  }

  -- a throw at it, by the facts at the handlers that it can come to
  handled_ok : (h : Heap) (f : Frame) (rest : List Frame) (e lo : ℕ) (row : List Tag) → IsSeated h f rest e lo → AreTagged row f.registers lo (length h.locks) h
      → ((k i : ℕ) → handler_at x.app f.method f.index k ≡ Some i → (set (At f.method e i (status h own)) ≡ true) × IsUnder row (row_at x f.method i))
      → EachWay (IsInside x own set) (by_each (moves (here_of x p.at h f rest) f.registers) (handlers_of (place_at x.app f.method f.index)))
  handled_ok h f rest e lo row seat tagged handlers =
      each_by (IsInside x own set) _ (handlers_of (place_at x.app f.method f.index))
      (λ k i eq. (let fact = handlers k i (handler_numbered (place_at x.app f.method f.index) k i eq) in runs_at h f rest e lo i f.registers row seat tagged fact.0 fact.1))

  -- ---- a frame that waits for method n, which was entered at status `es`, when that one is gone
  module _ (h : Heap) (ok : IsHeap (slot_count x) h) (g : Frame) (rest : List Frame) (n es hi : ℕ) (more : hi ≤ length h.locks) (b : Below x own set p.root start_status h (g ∷ rest) n es hi) where
    abbrev waits : IsWaiting x own set h g n es hi b.0 b.1
    waits = b.2

    seated : IsSeated h g rest b.0 b.1
    seated = record { ok = ok; from = omega (arith, waits.from, more); reached = waits.reached; below = b.3 }

    followed : IsFollowed x g.method g.index n
    followed =
        p.tagged.calls g.method g.index n waits.reached
        (called_live waits.gone (row_of g) g.registers b.1 hi h waits.registers (let width = length-row_at x.tags g.method g.index in omega (arith, width))) waits.callee

    tagged_then : AreTagged (called followed.gone (row_of g)) g.registers b.1 (length h.locks) h
    tagged_then = resumed x own set h g n es hi b.0 b.1 followed.gone followed.assigns more waits

    -- it returned, with a value in the result cell
    pub resumes_ok : (i : ℕ) (answer : Returned) (v : Value) → act_at x.app n i ≡ Some (Return answer) → IsLive (row_at x n i) → set (Ret n es (status h own)) ≡ true → Means (answered answer (row_at x n i)) v hi (length h.locks) h
        → IsInside x own set (answers (here_of x p.at h g rest) v)
    resumes_ok i answer v is live ret means = to (successor_at x.app g.method g.index 0) refl
      where
        result : Tag
        result = answered answer (row_at x n i)

        same : result_index g ≡ result_cell (row_of g)
        same = ap pred (tagged_then.count ∙ length-map (row_of g) (called_change followed.gone))

        written : AreTagged (slice_set (called followed.gone (row_of g)) (result_cell (row_of g)) result) (slice_set g.registers (result_index g) v) b.1 (length h.locks) h
        written =
            subst (λ (r : ℕ). AreTagged (slice_set (called followed.gone (row_of g)) r result) (slice_set g.registers (result_index g) v) b.1 (length h.locks) h) same
            (tagged_set (called followed.gone (row_of g)) g.registers b.1 (length h.locks) h tagged_then (result_index g) result v (means_lower result v b.1 hi (length h.locks) h waits.from means))

        to : (o : Option ℕ) → successor_at x.app g.method g.index 0 ≡ o → IsInside x own set (goes_to (here_of x p.at h g rest) (slice_set g.registers (result_index g) v) o)
        to None eq = tt
        to (Some j) eq =
            runs_at h g rest b.0 b.1 j (slice_set g.registers (result_index g) v) (slice_set (called followed.gone (row_of g)) (result_cell (row_of g)) result) seated written
            (p.closed.by _ _ (inl (C2 (method_no n) waits.callee waits.opened eq)) (waits.at, (ret, tt))) (followed.returns 0 j i answer eq is live)

    -- it threw: what the frame does at its handlers
    caught_below : set (Exc n es (status h own)) ≡ true → EachWay (IsInside x own set) (by_each (moves (here_of x p.at h g rest) g.registers) (handlers_of (place_at x.app g.method g.index)))
    caught_below exc =
        handled_ok h g rest b.0 b.1 (called followed.gone (row_of g)) seated tagged_then
        (λ k i eq. (p.closed.by _ _ (inl (C3 (method_no n) k waits.callee waits.opened eq)) (waits.at, (exc, tt)), followed.throws k i eq))

    leaves_below : set (Exc n es (status h own)) ≡ true → leaves_at x.app g.method g.index ≡ true → set (Exc g.method b.0 (status h own)) ≡ true
    leaves_below exc leaves = p.closed.by _ _ (inl (C3_leaves (method_no n) waits.callee waits.opened leaves)) (waits.at, (exc, tt))

  -- a throw in the frames below a method that it left
  left_ok : (h : Heap) → IsHeap (slot_count x) h → (rest : List Frame) (n es hi : ℕ) → hi ≤ length h.locks → set (Exc n es (status h own)) ≡ true → Below x own set p.root start_status h rest n es hi → EachWay (IsInside x own set) (unwinds x p.at h rest)
  left_ok h ok [] n es hi more exc b = (tt, tt)
  left_ok h ok (g ∷ rest) n es hi more exc b =
      each_then (IsInside x own set) (by_each (moves (here_of x p.at h g rest) g.registers) (handlers_of (place_at x.app g.method g.index)))
      (if leaves_at x.app g.method g.index then unwinds x p.at h rest else Empty)
      (caught_below h ok g rest n es hi more b exc)
      (way_if (IsInside x own set) (leaves_at x.app g.method g.index) (unwinds x p.at h rest) Empty
      (λ leaves. left_ok h ok rest g.method b.0 b.1 (omega (arith, more, b.2.from)) (leaves_below h ok g rest n es hi more b exc leaves) b.3) (λ _. tt))

  module _ (n : Stand) where
    open n use {h, ok, f, rest, t}

    pub live : IsLive (row_of f)
    live = record {
      register = 0;
      is = λ bot.
          let wide : 0 < length (row_of f) = omega (arith, length-row_at x.tags f.method f.index) in
          subst (λ (q : Tag). Means q (get_or f.registers 0 Zero) t.lo (length h.locks) h) bot (t.registers.each 0 wide);
    }

    -- it stays where it is in the stack, over a heap of which it left what the frames below know
    seated_on : (h' : Heap) → IsHeap (slot_count x) h' → Spares x f.method t.lo h h' → IsSeated h' f rest t.e t.lo
    seated_on h' kept spares = record {
      ok = kept;
      from = omega (arith, t.from, spares.more);
      reached = t.reached;
      below = below_kept x own set h h' p.root start_status rest f.method t.e t.lo spares t.below;
    }

    -- on to a successor, with what the instruction left
    pub goes_ok : (h' : Heap) (values : List Value) (a : Act) (k : ℕ) → IsHeap (slot_count x) h' → act_at x.app f.method f.index ≡ Some a → Spares x f.method t.lo h h'
        → in_mask (passes own a (row_of f) (out_of f) k (status h own)) (status h' own) ≡ true → AreTagged (after (site_at x.app f.method f.index) a (row_of f)) values t.lo (length h'.locks) h'
        → IsInside x own set (goes_on (here_of x p.at h' f rest) values k)
    goes_ok h' values a k kept is spares mask tagged = to (successor_at x.app f.method f.index k) refl
      where
        to : (o : Option ℕ) → successor_at x.app f.method f.index k ≡ o → IsInside x own set (goes_to (here_of x p.at h' f rest) values o)
        to None eq = tt
        to (Some j) eq =
            runs_at h' f rest t.e t.lo j values _ (seated_on h' kept spares) tagged (next_at f.method t.e f.index (status h own) j (status h' own) k a is eq mask t.at)
            (p.tagged.flows f.method f.index k j a t.reached live is (leads a (row_of f) (out_of f) k (status h own) (status h' own) mask) (leads_out a (row_of f) (out_of f) k (status h own) (status h' own) mask) eq)

    -- an instruction that leaves the heap as it is
    pub quiet_ok : (values : List Value) (a : Act) (k : ℕ) → act_at x.app f.method f.index ≡ Some a → in_mask (passes own a (row_of f) (out_of f) k (status h own)) (status h own) ≡ true
        → AreTagged (after (site_at x.app f.method f.index) a (row_of f)) values t.lo (length h.locks) h → IsInside x own set (goes_on (here_of x p.at h f rest) values k)
    quiet_ok values a k is mask tagged = goes_ok h values a k ok is (spares_all x f.method t.lo h) mask tagged

    -- a throw, by the facts at the handlers that it can come to, and that of its leaving
    caught_ok : (row : List Tag) → AreTagged row f.registers t.lo (length h.locks) h
        → ((k i : ℕ) → handler_at x.app f.method f.index k ≡ Some i → (set (At f.method t.e i (status h own)) ≡ true) × IsUnder row (row_at x f.method i))
        → (leaves_at x.app f.method f.index ≡ true → set (Exc f.method t.e (status h own)) ≡ true) → EachWay (IsInside x own set) (throws_from (here_of x p.at h f rest))
    caught_ok row tagged handlers leaving =
        each_then (IsInside x own set) (by_each (moves (here_of x p.at h f rest) f.registers) (handlers_of (place_at x.app f.method f.index)))
        (if leaves_at x.app f.method f.index then unwinds x p.at h rest else Empty)
        (handled_ok h f rest t.e t.lo row (seated_on h ok (spares_all x f.method t.lo h)) tagged handlers)
        (way_if (IsInside x own set) (leaves_at x.app f.method f.index) (unwinds x p.at h rest) Empty (λ leaves. left_ok h ok rest f.method t.e t.lo t.from (leaving leaves) t.below) (λ _. tt))

    -- an instruction that throws by itself
    pub throws_ok : (a : Act) → act_at x.app f.method f.index ≡ Some a → in_mask (throws own a (row_of f) (out_of f) (status h own)) (status h own) ≡ true
        → AreTagged (thrown a (row_of f)) f.registers t.lo (length h.locks) h → EachWay (IsInside x own set) (throws_from (here_of x p.at h f rest))
    throws_ok a is mask tagged =
        caught_ok (thrown a (row_of f)) tagged
        (λ k i eq. (p.closed.by _ _ (inl (I3 k eq by_act)) (t.at, tt), p.tagged.throws f.method f.index k i a t.reached live is (throwing a (row_of f) (out_of f) (status h own) (status h own) mask) eq))
        (λ leaves. p.closed.by _ _ (inl (I3_leaves leaves by_act)) (t.at, tt))
      where
        by_act : in_mask (mask_throws own (act_at x.app f.method f.index) (row_of f) (out_of f) (status h own)) (status h own) ≡ true
        by_act = subst (λ (o : Option Act). in_mask (mask_throws own o (row_of f) (out_of f) (status h own)) (status h own) ≡ true) (sym is) mask
