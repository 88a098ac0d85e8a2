-- What a part of the work does to the table.
use Rattle.std.specs.Prelude.{ℕ, ◌≡◌, ◌<◌, ◌≤◌, Bool, true, false, ◌&&◌, ◌||◌, not, List, Option, Some, None, Contains}
use Rattle.app_model.specs.CallGraph.{callees_at, outside_at}
use Rattle.app_model.specs.Components.{entries_of}
use Rattle.app_model.specs.Masks.{in_lock_mask}
use Rattle.app_model.specs.Sites.{site_at}
use Rattle.app_model.specs.TagTable.{TagParts, row_at}
use Rattle.app_model.specs.Words.{handler_at, successor_at}
use Rattle.app_model.specs.declared.tag.Tag.{Tag}
use Rattle.ns_base.specs.declared.rows.MethodNo.{MethodNo}
use Rattle.act_model.specs.Acts.{act_at}
use Rattle.act_model.specs.Changes.{after}
use Rattle.act_model.specs.Tags.{Under}
use Rattle.act_model.specs.declared.act.Act.{Act}
use Rattle.act_model.specs.declared.act.Act.TheVariants.{Return, Call}
use Rattle.act_model.specs.declared.act.Gives.{Gives}
use Rattle.act_model.specs.declared.act.Returned.{Returned}
use Rattle.app_model.specs.declared.lock_use.LockUse.{LockUse}
use Rattle.flow_model.specs.TagFlow.{IsLive, answered, can_throw, is_call, leads_on}
use Rattle.tag_flow.specs.declared.calling.Handing.{Handing}
use Rattle.tag_flow.specs.declared.known.Spot.{Spot}
use Rattle.tag_rows.specs.declared.change.Change.{Change}
use Rattle.tag_rows.specs.declared.change.Change.TheVariants.{After, Thrown, Past, Out}
use Rattle.tag_flow.specs.declared.passing.Step.{Step}
use Rattle.tag_rows.specs.declared.runs.Pair.{Pair}
use Rattle.tag_rows.specs.Changes.{Keeps}
use Rattle.tag_rows.specs.Cells.{Grows}
use Rattle.tag_flow.specs.Known.{IsClosed, KnownParts, is_gone}
use Rattle.tag_flow.specs.State.{IsSource, IsSpot, IsState, StateParts, answer_of, state_room}

-- a mask of the lock fields to which the reach of some callee stores, where there is a callee
pub record IsUnion (k : KnownParts) (m i gone : ℕ) : Type 0 where
  pub some_callee : (n : MethodNo) × Contains (callees_at k.graph m i) n
  pub only : (l : ℕ) → in_lock_mask gone l ≡ true → (n : MethodNo) × Contains (callees_at k.graph m i) n × (is_gone k n.0 l ≡ true)
  pub all : (n : MethodNo) (l : ℕ) → Contains (callees_at k.graph m i) n → is_gone k n.0 l ≡ true → in_lock_mask gone l ≡ true

-- the site of a call that makes a lock; for every other act any number will do
abbrev pub IsSite : KnownParts → (m i : ℕ) → Act → (site : ℕ) → Type 0
IsSite k m i a site = (row : List Tag) → after site a row ≡ after (site_at k.app m i) a row

-- the change of a flow from instruction i to instruction j of a method
pub data Leads (k : KnownParts) (m i j : ℕ) : Change → Type 0 where
  leads_after : (x : ℕ) (a : Act) (site : ℕ) → act_at k.app m i ≡ Some a → leads_on a ≡ true → (is_call a ≡ true → outside_at k.graph m i ≡ true) → IsSite k m i a site
      → successor_at k.app m i x ≡ Some j → Leads k m i j (After site a)
  leads_thrown : (x : ℕ) (a : Act) → act_at k.app m i ≡ Some a → can_throw a ≡ true → handler_at k.app m i x ≡ Some j → Leads k m i j (Thrown a)
  leads_past : (x gone : ℕ) → IsUnion k m i gone → successor_at k.app m i x ≡ Some j → Leads k m i j (Past gone)
  leads_out : (x gone : ℕ) → IsUnion k m i gone → handler_at k.app m i x ≡ Some j → Leads k m i j (Out gone)

pub record IsStep (k : KnownParts) (s : StateParts) (step : Step) : Type 0 where
  pub source : IsSource k s step.from
  pub to : IsSpot k step.to
  pub method : step.to.method ≡ step.from.method
  pub leads : Leads k step.from.method.0 step.from.index step.to.index step.change
  pub kept : Keeps step.change step.from.width step.kept

-- its two rows
abbrev pub pair_of : Step → Pair
pair_of step = record { from = step.from.start; to = step.to.start; width = step.from.width; kept = step.kept }

-- the first instruction of a callee, and of a callback
pub record Enters (k : KnownParts) (from : Spot) (handing : Handing) (to : Spot) : Type 0 where
  pub spot : IsSpot k to
  pub first : to.index ≡ 0
  pub callee : Contains (callees_at k.graph from.method.0 from.index) to.method
  pub call : (usage : LockUse) × (gives : Gives) × (act_at k.app from.method.0 from.index ≡ Some (Call handing.by usage handing.args gives))

pub record Begins (k : KnownParts) (to : Spot) : Type 0 where
  pub spot : IsSpot k to
  pub first : to.index ≡ 0
  pub entry : Contains (entries_of k.list) to.method

-- an act leads on by itself; a call where it leads outside
abbrev pub goes_by_itself : Act → (outside : Bool) → Bool
goes_by_itself a outside = leads_on a && (not (is_call a) || outside)

-- how a call hands its arguments on, and what a return answers
abbrev pub handing_of : Act → Option Handing
handing_of (Call how usage arguments gives) = Some (record { by = how; args = arguments })
handing_of a = None

abbrev pub returned_of : Act → Option Returned
returned_of (Return answer) = Some answer
returned_of a = None

-- ---- parts of the work
-- the tag is above what the returns of a method give
abbrev pub AreAnswersUnder : KnownParts → TagParts → (n : ℕ) → Tag → Type 0
AreAnswersUnder k table n top = (e : ℕ) (answer : Returned) → act_at k.app n e ≡ Some (Return answer) → IsLive (row_at table n e) → Under (answered answer (row_at table n e)) top

-- every closed table is above this one, and what the returns gave so far is no more than they give
pub record IsBelow (k : KnownParts) (s : StateParts) : Type 0 where
  pub cells : (other : TagParts) → other.registers ≡ s.table.registers → IsClosed k other → Grows s.table other
  pub answers : (n : ℕ) (top : Tag) → AreAnswersUnder k s.table n top → Under (answer_of s n) top

-- a part that says whether it changed anything: if not, this is done
pub record Turn (k : KnownParts) (goal : StateParts → Type 0) (old new : StateParts) (moved : Bool) : Type 0 where
  pub below : IsBelow k old → IsBelow k new
  pub grows : Grows old.table new.table
  pub state : IsState k old → IsState k new
  pub same : moved ≡ false → new ≡ old
  pub falls : moved ≡ true → state_room new < state_room old
  pub done : moved ≡ false → goal new

-- a part that promises nothing but that the table stays under every closed one
pub record Holds (k : KnownParts) (old new : StateParts) : Type 0 where
  pub below : IsBelow k old → IsBelow k new
  pub grows : Grows old.table new.table
  pub state : IsState k old → IsState k new
  pub room : state_room new ≤ state_room old
