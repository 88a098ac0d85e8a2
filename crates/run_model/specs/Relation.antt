-- The relation between a set of facts for lock field l and a state, which each step of the machine keeps.
use Rattle.std.specs.Prelude.{◌≡◌, ℕ, ◌<◌, ◌≤◌, ◌↔◌, Bool, Contains, true, false, List, [], ◌∷◌, length, Option, Some, None, slice_index, slice_index_or, slice_set}
use Rattle.app_model.specs.declared.component.Edge.{Edge}
use Rattle.app_model.specs.declared.tag.Tag.{Tag}
use Rattle.app_model.specs.declared.tag.Tag.TheVariants as tag
use Rattle.app_model.specs.Components.{edge_at, callback_at}
use Rattle.act_model.specs.Changes.{called, tag_in}
use Rattle.flow_model.specs.Derived.{Set, HasAll}
use Rattle.app_model.specs.Facts.{Fact, View, At}
use Rattle.flow_model.specs.Rules.{Carries, entered}
use Rattle.app_model.specs.Subject.{SubjectParts, callees_at, is_reached, row_at, slot_count}
use Rattle.app_model.specs.Reach.{Assigns}
use Rattle.app_model.specs.Targets.{method_no}
use Rattle.flow_model.specs.Subject.{is_open}
use Rattle.run_model.specs.Heaps.{Value, Zero, Nonzero, Object, LockRef, Heap, cell, cell_value, held_value, is_lock, lock_at, status}
use Rattle.run_model.specs.Frames.{Callback, Frame, State, Idle, Running, AtEnd, Over, Reason, Uncaught, Stuck, Escape}

-- what holds of each member of a list
abbrev pub Each : {A : Type 0} → (A → Type 0) → List A → Type 0
Each P [] = Unit {0}
Each P (x ∷ xs) = P x × Each P xs

-- what is true of each heap that a run reaches; n is the number of lock fields
pub record IsHeap (n : ℕ) (h : Heap) : Type 0 where
  pub count : length h.cells ≡ n
  -- a field holds a lock of its own
  pub cell : (l i : ℕ) → cell h l ≡ Some i → (lock_at h i).owner ≡ Some l
  -- a lock that no field owns is as it was made
  pub unheld : (i : ℕ) → (lock_at h i).owner ≡ None → (lock_at h i).count ≡ 0
  pub counted : (i : ℕ) → (lock_at h i).owner ≡ None → (lock_at h i).counted ≡ true

-- ---- tags
-- a lock that was made at a site since there were `lo` locks and before there were `hi`, and that no field owns
pub record IsNew (site : ℕ) (v : Value) (lo hi : ℕ) (h : Heap) : Type 0 where
  pub i : ℕ
  pub is : v ≡ LockRef i
  pub from : lo ≤ i
  pub below : i < hi
  pub loose : (lock_at h i).owner ≡ None
  pub made : (lock_at h i).site ≡ site

abbrev pub IsSolid : Value → Type 0
IsSolid Zero = ⊥
IsSolid Nonzero = Unit {0}
IsSolid (Object type) = Unit {0}
IsSolid (LockRef i) = ⊥

-- what isHeld would answer of what a field holds; of nothing zero
abbrev pub held_in : Heap → Option ℕ → Value
held_in h None = Zero
held_in h (Some i) = held_value (lock_at h i).count

-- what a tag says of a value
abbrev pub Means : Tag → Value → (lo hi : ℕ) → Heap → Type 0
Means tag.Bot v lo hi h = ⊥
Means tag.Zero v lo hi h = v ≡ Zero
Means tag.Solid v lo hi h = IsSolid v
Means (tag.Held l) v lo hi h = v ≡ held_in h (cell h l.0)
Means tag.Any v lo hi h = is_lock v ≡ false
Means (tag.Field l) v lo hi h = v ≡ cell_value (cell h l.0)
Means (tag.New site) v lo hi h = IsNew site v lo hi h
Means tag.Mixed v lo hi h = Unit {0}

-- the registers of a frame, and its result cell, are as their tags say
pub record AreTagged (row : List Tag) (values : List Value) (lo hi : ℕ) (h : Heap) : Type 0 where
  pub count : length values ≡ length row
  pub each : (r : ℕ) → r < length row → Means (tag_in row r) (slice_index_or values r Zero) lo hi h

-- ---- frames
-- a frame that waits for a method n, which was entered at status `es` when there were `hi` locks;
-- itself it was entered at status `e` when there were `lo` locks
pub record IsWaiting (x : SubjectParts) (l : ℕ) (set : Set) (h : Heap) (f : Frame) (n es hi e lo : ℕ) : Type 0 where
  pub from : lo ≤ hi
  pub reached : is_reached x f.method ≡ true
  pub at : set (At f.method e f.index es) ≡ true
  -- the call there can call it, and was open
  pub callee : Contains (callees_at x f.method f.index) (method_no n)
  pub opened : is_open x l f.method f.index es ≡ true
  -- its registers are as after a call of it: the lock fields to which its reach stores are gone
  pub gone : ℕ → Bool
  pub assigns : (k : ℕ) → (gone k ≡ true) ↔ Assigns x.app x.graph n k
  pub registers : AreTagged (called gone (row_at x f.method f.index)) f.registers lo hi h

-- the frames below a method n that was entered at status `es` when there were `hi` locks;
-- the first one is the callback's method, entered at the status at which the callback began
abbrev pub Below : SubjectParts → (l : ℕ) → Set → (root s0 : ℕ) → Heap → List Frame → ℕ → ℕ → ℕ → Type 0
Below x l set root s0 h [] n es hi = (n ≡ root) × (es ≡ s0)
Below x l set root s0 h (f ∷ rest) n es hi =
    (e : ℕ) × (lo : ℕ) × IsWaiting x l set h f n es hi e lo × Below x l set root s0 h rest f.method e lo

-- the frame that runs
pub record IsTop (x : SubjectParts) (l : ℕ) (set : Set) (root s0 : ℕ) (h : Heap) (f : Frame) (rest : List Frame) : Type 0 where
  pub e : ℕ
  pub lo : ℕ
  pub from : lo ≤ length h.locks
  pub reached : is_reached x f.method ≡ true
  pub at : set (At f.method e f.index (status h l)) ≡ true
  pub registers : AreTagged (row_at x f.method f.index) f.registers lo (length h.locks) h
  pub below : Below x l set root s0 h rest f.method e lo

abbrev pub IsStack : SubjectParts → ℕ → Set → (root s0 : ℕ) → Heap → List Frame → Type 0
IsStack x l set root s0 h [] = ⊥
IsStack x l set root s0 h (f ∷ rest) = IsTop x l set root s0 h f rest

-- ---- callbacks
-- each component may be in its state at that status
pub record AreViews (x : SubjectParts) (set : Set) (states : List ℕ) (s : ℕ) : Type 0 where
  pub count : length states ≡ length x.list
  pub each : (c : ℕ) → c < length x.list → set (View c (slice_index states c) s) ≡ true

-- what stays as it was since a callback began, at status s0, before its edge's clearing
pub record IsCallback (x : SubjectParts) (set : Set) (at : Callback) (edge : Edge) (s0 : ℕ) : Type 0 where
  pub views : AreViews x set at.states s0
  pub component : at.component < length x.list
  pub there : edge_at x.list at.component at.edge ≡ Some edge
  pub from : edge.from ≡ slice_index at.states at.component

pub record IsRunning (x : SubjectParts) (l : ℕ) (set : Set) (at : Callback) (h : Heap) (frames : List Frame) : Type 0 where
  pub edge : Edge
  pub root : ℕ
  pub s0 : ℕ
  pub callback : IsCallback x set at edge s0
  pub method : callback_at x.list at.component edge.callback ≡ Some root
  pub heap : IsHeap (slot_count x) h
  pub stack : IsStack x l set root (entered x l at.component edge s0) h frames

-- a callback that has just ended: its edge carries the status at which it began to the one now, by facts of the set
pub record IsEnded (x : SubjectParts) (l : ℕ) (set : Set) (at : Callback) (h : Heap) : Type 0 where
  pub before : Callback
  pub edge : Edge
  pub s0 : ℕ
  pub needs : List Fact
  pub callback : IsCallback x set before edge s0
  pub same_component : before.component ≡ at.component
  pub same_edge : before.edge ≡ at.edge
  pub states : at.states ≡ slice_set before.states before.component edge.to
  pub heap : IsHeap (slot_count x) h
  pub carried : Carries x l before.component edge s0 (status h l) needs
  pub has : HasAll set needs

-- a run is never over since a lock went where it is not followed
abbrev pub NoEscape : Reason → Type 0
NoEscape Uncaught = Unit {0}
NoEscape Stuck = Unit {0}
NoEscape Escape = ⊥

-- what the start of a callback, and each step inside it, leads to
abbrev pub IsInside : SubjectParts → ℕ → Set → State → Type 0
IsInside x l set (Idle states h) = ⊥
IsInside x l set (Running at h frames) = IsRunning x l set at h frames
IsInside x l set (AtEnd at h) = IsEnded x l set at h
IsInside x l set (Over why) = NoEscape why

-- ---- between callbacks
pub record IsIdle (x : SubjectParts) (l : ℕ) (set : Set) (states : List ℕ) (h : Heap) : Type 0 where
  pub views : AreViews x set states (status h l)
  pub heap : IsHeap (slot_count x) h

-- the relation
abbrev pub IsSound : SubjectParts → ℕ → Set → State → Type 0
IsSound x l set (Idle states h) = IsIdle x l set states h
IsSound x l set (Running at h frames) = IsRunning x l set at h frames
IsSound x l set (AtEnd at h) = IsEnded x l set at h × AreViews x set at.states (status h l)
IsSound x l set (Over why) = NoEscape why
