-- Every step keeps the relation, and so does every run.
use Rattle.std.proofs.Common.{Option, get_or, zero, suc, replicate, None, ◌≡◌, ℕ, ◌<◌, ◌%◌, List, [], ◌∷◌, length, refl, sym, inl, inr, ◌∙◌}
use Rattle.std.proofs.lemmas.List.{length-replicate, get_or-replicate}
use Rattle.act_model.specs.Acts.{act_at}
use Rattle.flow_model.specs.Derived.{Set, IsClosed}
use Rattle.flow_model.specs.Policy.{MeetsPolicy}
use Rattle.flow_model.specs.Rules.{Between, Carries, Inner, Rules, V1}
use Rattle.app_model.specs.Subject.{SubjectParts, slot_count}
use Rattle.flow_model.specs.Subject.{status_masks}
use Rattle.run_model.specs.Heaps.{Heap, cell, is_lost, lock_at, status}
use Rattle.run_model.specs.Frames.{Callback, Frame, State, Idle, Running, AtEnd, Over, Stuck, here_of}
use Rattle.run_model.specs.Machine.{act_options, options_of, starts, run_from, run_of, start_of, step}
use Rattle.run_model.specs.Choices.{listed}
use Rattle.run_model.specs.Relation.{Each, IsHeap, IsIdle, IsInside, IsSound}
use Rattle.run_model.specs.Soundness.{LeavesNoneHeld, StandsWell}
use Rattle.run_model.specs.Tagged.{IsTagged}
use Rattle.run_model.proofs.Heaps.{held_exactly}
use Rattle.std.proofs.lemmas.Bool.{false≢true}
use Rattle.run_model.proofs.Members.{each_get, each_or, each_weaker}
use Rattle.run_model.proofs.Callbacks.{end_views, exits_well, idle_ok}
use Rattle.run_model.proofs.Instructions.{act_ok}

-- ---- the heap at the start
abbrev no_lock : Option ℕ
no_lock = None

abbrev empty : ℕ → Heap
empty n = record { cells = replicate n no_lock; locks = [] }

get_none : (n l : ℕ) → get_or (replicate n no_lock) l no_lock ≡ no_lock
get_none zero l = refl
get_none (suc n) zero = refl
get_none (suc n) (suc l) = get_none n l

empty_cell : (n l : ℕ) → cell (empty n) l ≡ None
unfolding cell
empty_cell n l = get_none n l

empty_heap : (n : ℕ) → IsHeap n (empty n)
unfolding lock_at
empty_heap n = record { count = length-replicate n no_lock; cell = λ l i e. absurd (let none = empty_cell n l in cc); unheld = λ i f. refl; counted = λ i f. refl }

empty_status : (n l : ℕ) → status (empty n) l ≡ 0
unfolding status is_lost
empty_status n l = rw (empty_cell n l) refl

-- ---- inside callbacks
pub starts_law : (x : SubjectParts) (l : ℕ) (set : Set) → IsTagged x → IsClosed (Inner x l (status_masks x l)) set → (states : List ℕ) (h : Heap) → IsIdle x l set states h → Each (IsInside x l set) (listed (starts x states h))
starts_law x l set tg cl states h idle = idle_ok x l set tg cl states h idle

pub steps_law : (x : SubjectParts) (l : ℕ) (set : Set) → IsTagged x → IsClosed (Inner x l (status_masks x l)) set → (at : Callback) (h : Heap) (frames : List Frame) → IsInside x l set (Running at h frames) → Each (IsInside x l set) (options_of x (Running at h frames))
steps_law x l set tg cl at h [] ok = absurd ok.stack
steps_law x l set tg cl at h (f ∷ rest) ok =
    each_or (IsInside x l set) (act_options (here_of x at h f rest) (act_at x.app f.method f.index)) (Over Stuck)
    (act_ok x l set (record { tagged = tg; closed = cl; at = at; edge = ok.edge; root = ok.root; s0 = ok.s0; callback = ok.callback; method = ok.method }) (record { h = h; ok = ok.heap; f = f; rest = rest; t = ok.stack }) (act_at x.app f.method f.index) refl) tt

-- ---- all rules
module _ (x : SubjectParts) (l : ℕ) (set : Set) (tg : IsTagged x) (cl : IsClosed (Rules x l) set) where
  inner : IsClosed (Inner x l (status_masks x l)) set
  inner = record { by = λ needs f r has. cl.by needs f (inl r) has }

  outer : IsClosed (Between x (Carries x l)) set
  outer = record { by = λ needs f r has. cl.by needs f (inr r) has }

  inside_sound : (s : State) → IsInside x l set s → IsSound x l set s
  inside_sound (Idle states h) ok = absurd ok
  inside_sound (Running at h frames) ok = ok
  inside_sound (AtEnd at h) ok = (ok, end_views x l set outer at h ok)
  inside_sound (Over why) ok = ok

  options_ok : (s : State) → IsSound x l set s → Each (IsSound x l set) (options_of x s)
  options_ok (Idle states h) ok =
      each_or (IsSound x l set) (starts x states h) (Idle states h) (each_weaker (IsInside x l set) (IsSound x l set) inside_sound _ (starts_law x l set tg inner states h ok)) ok
  options_ok (Running at h frames) ok = each_weaker (IsInside x l set) (IsSound x l set) inside_sound _ (steps_law x l set tg inner at h frames ok)
  options_ok (AtEnd at h) ok = (record { views = ok.1; heap = ok.0.heap }, tt)
  options_ok (Over why) ok = (ok, tt)

  step_ok : (k : ℕ) (s : State) → IsSound x l set s → IsSound x l set (step x k s)
  step_ok k s ok = each_get (IsSound x l set) (options_of x s) (k % length (options_of x s)) s (options_ok s ok) ok

  run_ok : (ks : List ℕ) (s : State) → IsSound x l set s → IsSound x l set (run_from x s ks)
  run_ok [] s ok = ok
  run_ok (k ∷ ks) s ok = run_ok ks (step x k s) (step_ok k s ok)

  start_ok : IsSound x l set (start_of x)
  start_ok = record {
    views = record {
      count = length-replicate (length x.list) 0;
      each = λ c within. rw (empty_status (slot_count x) l, get_or-replicate {A = ℕ} (length x.list) c 0 0 within) (outer.by _ _ (V1 within) tt);
    };
    heap = empty_heap (slot_count x);
  }

  pub relation_law : (choices : List ℕ) → IsSound x l set (run_of x choices)
  relation_law choices = run_ok choices (start_of x) start_ok

-- ---- the policy beside that
module _ (x : SubjectParts) (l : ℕ) (set : Set) (tg : IsTagged x) (lt : l < slot_count x) (cl : IsClosed (Rules x l) set) (mp : MeetsPolicy x l set) where
  stands : (s : State) → IsSound x l set s → StandsWell x l s
  stands (Idle states h) ok = tt
  stands (Running at h frames) ok = tt
  stands (AtEnd at h) ok = exits_well x l set lt mp at h ok.0
  stands (Over why) ok = ok

  pub runs_law : (choices : List ℕ) → StandsWell x l (run_of x choices)
  runs_law choices = stands _ (relation_law x l set tg cl choices)

  leaves : (s : State) → IsSound x l set s → LeavesNoneHeld x l s
  leaves (Idle states h) ok = tt
  leaves (Running at h frames) ok = tt
  leaves (AtEnd at h) ok = λ edge there exit answers holds. false≢true (sym (exits_well x l set lt mp at h ok.0 edge there exit answers) ∙ (held_exactly h l (slot_count x) ok.0.heap).1 holds)
  leaves (Over why) ok = tt

  pub counts_law : (choices : List ℕ) → LeavesNoneHeld x l (run_of x choices)
  counts_law choices = leaves _ (relation_law x l set tg cl choices)
