-- What is known of an application before its tags are.
use Rattle.std.specs.Prelude.{ℕ, ◌≡◌, ◌≤◌, ◌+◌, Bool, false, List, length, map, filter_map, Option, slice_index, slice_index_or}
use Rattle.ns_base.specs.declared.rows.MethodNo.{MethodNo}
use Rattle.app_model.specs.CallGraph.{GraphParts}
use Rattle.app_model.specs.Components.{BelongsTo, ComponentParts, entries_of}
use Rattle.app_model.specs.Masks.{in_lock_mask}
use Rattle.app_model.specs.Parts.{AppParts}
use Rattle.app_model.specs.Sound.{IsSoundApp}
use Rattle.app_model.specs.TagTable.{TagParts}
use Rattle.app_model.specs.Targets.{IsCallGraph}
use Rattle.app_model.specs.declared.rows.MethodRow.{MethodRow}
use Rattle.app_model.specs.declared.tag.Tag.{Tag}
use Rattle.flow_model.specs.TagFlow.{Flow, IsClosedTable, TellsReached, TellsStores}
use Rattle.tag_rows.specs.Sites.{AreSites}
use Rattle.tag_rows.specs.declared.sites.Site.{Site}

-- the methods of all callbacks, a mark for each method that is reached, a mask for each of the lock fields to which its reach stores, and the calls
-- that make a lock
pub record KnownParts : Type 0 where
  pub app : AppParts
  pub graph : GraphParts
  pub list : List ComponentParts
  pub entries : List MethodNo
  pub reached : List Bool
  pub masks : List ℕ
  pub sites : List Site

abbrev pub is_reached : KnownParts → (m : ℕ) → Bool
is_reached k m = slice_index_or k.reached m false

abbrev pub is_gone : KnownParts → (n l : ℕ) → Bool
is_gone k n l = in_lock_mask (slice_index k.masks n) l

-- how many cells a row of a method has
abbrev pub registers_of : AppParts → List ℕ
registers_of app = map (λ (method : MethodRow). method.registers) app.methods

abbrev pub row_width : AppParts → (m : ℕ) → ℕ
row_width app m = slice_index (registers_of app) m + 1

abbrev pub Flows : KnownParts → TagParts → (m j : ℕ) → List Tag → Type 0
Flows k table m j row = Flow k.app k.graph k.list (is_gone k) table m j row

abbrev pub IsClosed : KnownParts → TagParts → Type 0
IsClosed k table = IsClosedTable k.app k.graph k.list (is_gone k) table

-- the methods of a component's callbacks
abbrev pub chosen : List (Option MethodNo) → List MethodNo
chosen methods = filter_map (λ (m : Option MethodNo). m) methods

pub record IsKnown (k : KnownParts) : Type 0 where
  pub app : IsSoundApp k.app
  pub graph : IsCallGraph k.app k.graph
  pub list : BelongsTo k.app k.list
  pub entries : k.entries ≡ entries_of k.list
  pub reaches : TellsReached k.graph k.list (is_reached k)
  pub stores : TellsStores k.app k.graph (is_gone k)
  pub sites : AreSites k.app k.sites
  pub few_sites : length k.sites ≤ 64
