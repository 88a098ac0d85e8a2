-- The flow rules for a lock field l: each instance with the facts that it needs and the fact that it leads to.
use Rattle.std.specs.Prelude.{ℕ, ◌≡◌, ◌≢◌, ◌<◌, ◌&&◌, ◌==◌, Bool, true, false, if◌then◌else◌, List, [], ◌∷◌, length, Option, Some, None, Contains}
use Rattle.ns_base.specs.declared.rows.MethodNo.{MethodNo}
use Rattle.app_model.specs.declared.component.Edge.{Edge}
use Rattle.app_model.specs.Words.{successor_at, handler_at, leaves_at}
use Rattle.app_model.specs.Components.{edge_at, callback_at}
use Rattle.app_model.specs.Facts.{Fact, View, At, Ret, Exc}
use Rattle.app_model.specs.Masks.{in_mask}
use Rattle.app_model.specs.Subject.{SubjectParts, callees_at, owner_at}
use Rattle.flow_model.specs.Derived.{Either}
use Rattle.flow_model.specs.Status.{reset}
use Rattle.flow_model.specs.Subject.{Masks, status_masks, own_operation, is_open, returns_at}

-- the status of a field without a lock
abbrev pub no_lock : ℕ
no_lock = 0

abbrev pub is_owner : Option ℕ → ℕ → Bool
is_owner None c = false
is_owner (Some d) c = d == c

-- an edge of component c clears lock field l: it creates, and the component owns the field
abbrev pub clears : SubjectParts → (c : ℕ) → Edge → (l : ℕ) → Bool
clears x c edge l = edge.creates && is_owner (owner_at x l) c

-- the status at which an edge of component c begins its callback
abbrev pub entered : SubjectParts → (l c : ℕ) → Edge → (s : ℕ) → ℕ
entered x l c edge s = if clears x c edge l then reset s else s

-- inside a callback
pub data Inside (x : SubjectParts) (l : ℕ) (masks : Masks) : List Fact → Fact → Type 0 where
  I1 : {m e i s j t : ℕ} (k : ℕ) → own_operation x l m i ≡ false → successor_at x.app m i k ≡ Some j
      → in_mask (masks.passes m i k s) t ≡ true → Inside x l masks (At m e i s ∷ []) (At m e j t)
  I1_return : {m e i s : ℕ} → returns_at x m i ≡ true → Inside x l masks (At m e i s ∷ []) (Ret m e s)
  I2 : {m e i s j t : ℕ} (k : ℕ) → own_operation x l m i ≡ true → successor_at x.app m i k ≡ Some j
      → in_mask (masks.passes m i k s) t ≡ true → Inside x l masks (At m e i s ∷ []) (At m e j t)
  I3 : {m e i s h t : ℕ} (k : ℕ) → handler_at x.app m i k ≡ Some h
      → in_mask (masks.throws m i s) t ≡ true → Inside x l masks (At m e i s ∷ []) (At m e h t)
  I3_leaves : {m e i s t : ℕ} → leaves_at x.app m i ≡ true
      → in_mask (masks.throws m i s) t ≡ true → Inside x l masks (At m e i s ∷ []) (Exc m e t)
  -- a call that its receiver lets pass enters each callee, comes back where that returns, and throws where that throws
  C1 : {m e i s : ℕ} (n : MethodNo) → Contains (callees_at x m i) n → is_open x l m i s ≡ true
      → Inside x l masks (At m e i s ∷ []) (At n.0 s 0 s)
  C2 : {m e i s t j : ℕ} (n : MethodNo) → Contains (callees_at x m i) n → is_open x l m i s ≡ true → successor_at x.app m i 0 ≡ Some j
      → Inside x l masks (At m e i s ∷ Ret n.0 s t ∷ []) (At m e j t)
  C3 : {m e i s t h : ℕ} (n : MethodNo) (k : ℕ) → Contains (callees_at x m i) n → is_open x l m i s ≡ true → handler_at x.app m i k ≡ Some h
      → Inside x l masks (At m e i s ∷ Exc n.0 s t ∷ []) (At m e h t)
  C3_leaves : {m e i s t : ℕ} (n : MethodNo) → Contains (callees_at x m i) n → is_open x l m i s ≡ true → leaves_at x.app m i ≡ true
      → Inside x l masks (At m e i s ∷ Exc n.0 s t ∷ []) (Exc m e t)

-- the start of a callback
pub data Starts (x : SubjectParts) (l : ℕ) : List Fact → Fact → Type 0 where
  V3 : {c q s m : ℕ} {edge : Edge} (e : ℕ) → edge_at x.list c e ≡ Some edge → edge.from ≡ q → callback_at x.list c edge.callback ≡ Some m
      → Starts x l (View c q s ∷ []) (At m (entered x l c edge s) 0 (entered x l c edge s))

-- here: one whose callback is outside by its clearing alone, another as its method returns
pub data Carries (x : SubjectParts) (l c : ℕ) (edge : Edge) (s t : ℕ) : List Fact → Type 0 where
  outside : callback_at x.list c edge.callback ≡ None → t ≡ entered x l c edge s → Carries x l c edge s t []
  by_method : (m : ℕ) → callback_at x.list c edge.callback ≡ Some m → Carries x l c edge s t (Ret m (entered x l c edge s) t ∷ [])

-- between callbacks
pub data Between (x : SubjectParts) (carries : (c : ℕ) → Edge → (s t : ℕ) → List Fact → Type 0) : List Fact → Fact → Type 0 where
  V1 : {c : ℕ} → c < length x.list → Between x carries [] (View c 0 no_lock)
  V2 : {c q s t to : ℕ} {edge : Edge} {needs : List Fact} (e : ℕ) → edge_at x.list c e ≡ Some edge → edge.from ≡ q → edge.to ≡ to
      → callback_at x.list c edge.callback ≡ None → carries c edge s t needs → Between x carries (View c q s ∷ needs) (View c to t)
  V4 : {c q s t to : ℕ} {edge : Edge} {needs : List Fact} (e m : ℕ) → edge_at x.list c e ≡ Some edge → edge.from ≡ q → edge.to ≡ to
      → callback_at x.list c edge.callback ≡ Some m → carries c edge s t needs → Between x carries (View c q s ∷ needs) (View c to t)
  -- another component moves
  V5 : {c q d p s t : ℕ} {edge : Edge} {needs : List Fact} (e : ℕ) → d ≢ c → edge_at x.list d e ≡ Some edge → edge.from ≡ p
      → carries d edge s t needs → Between x carries (View c q s ∷ View d p s ∷ needs) (View c q t)

-- the rules that a callback's steps follow, and all of them
abbrev pub Inner : SubjectParts → ℕ → Masks → List Fact → Fact → Type 0
Inner x l masks = Either (Inside x l masks) (Starts x l)

abbrev pub Rules : SubjectParts → ℕ → List Fact → Fact → Type 0
Rules x l = Either (Inner x l (status_masks x l)) (Between x (Carries x l))
