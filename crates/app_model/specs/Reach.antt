-- What calls reach, and to which lock fields that stores.
use Rattle.std.specs.Prelude.{ℕ, ◌≡◌, ◌==◌, Bool, true, false, List, [], ◌∷◌, Option, Some, None, Contains}
use Rattle.ns_base.specs.declared.rows.MethodNo.{MethodNo}
use Rattle.dalvik.specs.declared.ins.Ins.{Ins}
use Rattle.dalvik.specs.declared.ins.Ins.TheVariants as ins
use Rattle.dalvik.specs.declared.opcode.TheConstants.{IPUT_OBJECT, SPUT_OBJECT}
use Rattle.app_model.specs.CallGraph.{GraphParts, callees_at}
use Rattle.app_model.specs.Parts.{AppParts}
use Rattle.app_model.specs.Slots.{slot_at}
use Rattle.app_model.specs.Words.{ins_at}

-- a chain of callees leads to a method from one of the given ones
pub data IsReached (graph : GraphParts) (from : List MethodNo) : ℕ → Type 0 where
  given : (m : MethodNo) → Contains from m → IsReached graph from m.0
  called : {m : ℕ} (i : ℕ) (n : MethodNo) → IsReached graph from m → Contains (callees_at graph m i) n → IsReached graph from n.0

-- a set of methods that has the given ones, and with each method its callees
pub record IsClosedUnderCalls (graph : GraphParts) (from : List MethodNo) (set : ℕ → Type 0) : Type 0 where
  pub given : (m : MethodNo) → Contains from m → set m.0
  pub callees : (m i : ℕ) (n : MethodNo) → set m → Contains (callees_at graph m i) n → set n.0

-- reach is such a set, and the least one: it lies in each other that a test tells
pub record IsLeastReach (graph : GraphParts) (from : List MethodNo) : Type 0 where
  pub closed : IsClosedUnderCalls graph from (IsReached graph from)
  pub least : (test : ℕ → Bool) → IsClosedUnderCalls graph from (λ (m : ℕ). test m ≡ true) → (m : ℕ) → IsReached graph from m → test m ≡ true

-- ---- stores to lock fields
abbrev pub is_object_store : Option Ins → Bool
is_object_store None = false
is_object_store (Some (ins.FieldPut op value object field)) = op == IPUT_OBJECT
is_object_store (Some (ins.StaticPut op value field)) = op == SPUT_OBJECT
is_object_store (Some own) = false

-- instruction i of method m stores to lock field l
pub record StoresAt (app : AppParts) (m i l : ℕ) : Type 0 where
  pub store : is_object_store (ins_at app m i) ≡ true
  pub slot : slot_at app m i ≡ Some l

-- the reach of method m, itself included, stores to lock field l
pub record Assigns (app : AppParts) (graph : GraphParts) (m l : ℕ) : Type 0 where
  pub by : ℕ
  pub reached : IsReached graph (record { 0 = m } ∷ []) by
  pub index : ℕ
  pub stores : StoresAt app by index l
