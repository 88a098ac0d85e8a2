-- The call graph: what each call can call.
use Rattle.std.specs.Prelude.{ℕ, ◌≡◌, ◌<◌, Bool, false, List, [], length, Option, Some, None, slice_get, slice_index_or}
use Rattle.std.specs.List.{All, AllPairs}
use Rattle.ns_base.specs.declared.rows.MethodNo.{MethodNo}
use Rattle.app_model.specs.Parts.{AppParts}
use Rattle.app_model.specs.Words.{code_len}

-- methods of the application, and whether the call can lead outside it
pub record TargetParts : Type 0 where
  pub callees : List MethodNo
  pub outside : Bool

pub record GraphParts : Type 0 where
  -- what calls can call, where calls that can call the same share a set
  pub sets : List TargetParts
  -- the set of each instruction of each method, where it is a call
  pub uses : List (List (Option ℕ))

abbrev pub no_targets : TargetParts
no_targets = record { callees = []; outside = false }

abbrev pub targets_of : Option TargetParts → TargetParts
targets_of None = no_targets
targets_of (Some set) = set

abbrev pub set_of : GraphParts → Option (Option ℕ) → TargetParts
set_of graph None = no_targets
set_of graph (Some None) = no_targets
set_of graph (Some (Some s)) = targets_of (slice_get graph.sets s)

-- the set that instruction i of method m uses
unfoldable pub use_at : GraphParts → (m i : ℕ) → Option (Option ℕ)
use_at graph m i = slice_get (slice_index_or graph.uses m []) i

abbrev pub set_number : Option (Option ℕ) → Option ℕ
set_number None = None
set_number (Some set) = set

abbrev pub callees_of : GraphParts → (s : ℕ) → List MethodNo
callees_of graph s = (targets_of (slice_get graph.sets s)).callees

-- what instruction i of method m can call: nothing where it is no call, and out of range
unfoldable pub targets_at : GraphParts → (m i : ℕ) → TargetParts
targets_at graph m i = set_of graph (use_at graph m i)

abbrev pub callees_at : GraphParts → (m i : ℕ) → List MethodNo
callees_at graph m i = (targets_at graph m i).callees

abbrev pub outside_at : GraphParts → (m i : ℕ) → Bool
outside_at graph m i = (targets_at graph m i).outside

abbrev pub AreRising : List MethodNo → Type 0
AreRising methods = AllPairs (λ (a b : MethodNo). a.0 < b.0) methods

pub record IsGraph (graph : GraphParts) : Type 0 where
  pub uses : (m i s : ℕ) → use_at graph m i ≡ Some (Some s) → s < length graph.sets
  pub rising : All (λ (set : TargetParts). AreRising set.callees) graph.sets

-- a row for each instruction, and methods of the application alone
pub record FitsCode (app : AppParts) (graph : GraphParts) : Type 0 where
  pub methods : length graph.uses ≡ length app.methods
  pub rows : (m : ℕ) → length (slice_index_or graph.uses m []) ≡ code_len app m
  pub callees : All (λ (set : TargetParts). All (λ (n : MethodNo). n.0 < length app.methods) set.callees) graph.sets
