-- Where tags flow: from the entries of callbacks on to each successor, to each handler, into callees and back. A table of
-- tags is closed where no flow leads above it.
use Rattle.std.specs.Prelude.{ℕ, ◌≡◌, ◌≢◌, ◌<◌, ◌↔◌, Bool, true, false, List, [], Option, Some, None, Contains, length, map, slice_get, slice_set}
use Rattle.ns_base.specs.declared.rows.MethodNo.{MethodNo}
use Rattle.dalvik.specs.declared.ins.Args.{Args}
use Rattle.app_model.specs.CallGraph.{GraphParts, callees_at, outside_at}
use Rattle.app_model.specs.Components.{ComponentParts, callback_at, entries_of}
use Rattle.app_model.specs.Parts.{AppParts}
use Rattle.app_model.specs.Sites.{site_at}
use Rattle.app_model.specs.Reach.{Assigns, IsReached}
use Rattle.app_model.specs.TagTable.{TagParts, FitsReached, row_at, tag_at}
use Rattle.app_model.specs.Words.{code_len, successor_at, handler_at}
use Rattle.app_model.specs.declared.lock_use.LockUse.{LockUse}
use Rattle.app_model.specs.declared.rows.MethodRow.{MethodRow}
use Rattle.app_model.specs.declared.tag.Tag.{Tag}
use Rattle.app_model.specs.declared.tag.Tag.TheVariants.{Bot, Zero, Any}
use Rattle.act_model.specs.declared.act.Act.{Act}
use Rattle.act_model.specs.declared.act.Act.TheVariants.{Go, Test, Copy, TakeResult, Write, Fill, ReadSlot, WriteSlot, Give, Check, Throw, Return, Call}
use Rattle.app_model.specs.declared.calls.By.{By}
use Rattle.act_model.specs.declared.act.Gives.{Gives}
use Rattle.act_model.specs.declared.act.Returned.{Returned}
use Rattle.act_model.specs.declared.act.Returned.TheVariants as returned
use Rattle.act_model.specs.declared.act.Throws.{Throws}
use Rattle.act_model.specs.declared.act.Throws.TheVariants.{Never, ByChoice, WhereZero}
use Rattle.act_model.specs.Acts.{act_at}
use Rattle.act_model.specs.Changes.{after, called, result_cell, tag_in, thrown}
use Rattle.act_model.specs.Entries.{call_words, callback_row, entering, entry_row}
use Rattle.act_model.specs.Tags.{Under}

-- ---- what an act can do, for some values of its registers
-- lead on to a successor, by itself: a call by what it calls
abbrev pub leads_on : Act → Bool
leads_on Go = true
leads_on (Test value zero) = true
leads_on (Copy to from wide) = true
leads_on (TakeResult to) = true
leads_on (Write to what throws) = true
leads_on (Fill arguments kind) = true
leads_on (ReadSlot to slot throws) = true
leads_on (WriteSlot from slot throws) = true
leads_on (Give from throws) = true
leads_on (Check throws) = true
leads_on (Throw object) = false
leads_on (Return answer) = false
leads_on (Call by usage arguments gives) = true

abbrev pub may_throw : Throws → Bool
may_throw Never = false
may_throw ByChoice = true
may_throw (WhereZero r) = true

abbrev pub can_throw : Act → Bool
can_throw Go = false
can_throw (Test value zero) = false
can_throw (Copy to from wide) = false
can_throw (TakeResult to) = false
can_throw (Write to what throws) = may_throw throws
can_throw (Fill arguments kind) = false
can_throw (ReadSlot to slot throws) = may_throw throws
can_throw (WriteSlot from slot throws) = may_throw throws
can_throw (Give from throws) = may_throw throws
can_throw (Check throws) = may_throw throws
can_throw (Throw object) = true
can_throw (Return answer) = false
can_throw (Call by usage arguments gives) = true

abbrev pub is_call : Act → Bool
is_call (Call by usage arguments gives) = true
is_call act = false

-- some tag is not Bot, as before each instruction that is reached
pub record IsLive (row : List Tag) : Type 0 where
  pub register : ℕ
  pub is : tag_in row register ≢ Bot

-- ---- what a return hands back: of a lock's being held nothing
abbrev pub answered : Returned → List Tag → Tag
answered returned.Nothing row = Zero
answered returned.Wide row = Any
answered (returned.Register r) row = entering (tag_in row r)

-- a row of which the result cell alone is there
abbrev pub only_result : List Tag → Tag → List Tag
only_result row tag = slice_set (map (λ (t : Tag). Bot) row) (result_cell row) tag

abbrev pub without_result : List Tag → List Tag
without_result row = slice_set row (result_cell row) Bot

abbrev pub callee_row : Option MethodRow → List Tag → List Tag
callee_row None words = []
callee_row (Some method) words = entry_row Zero method.registers method.ins words

-- a row flows to instruction j of method m. `gone n l`: the reach of method n stores to lock field l
pub data Flow (app : AppParts) (graph : GraphParts) (list : List ComponentParts) (gone : (n l : ℕ) → Bool) (table : TagParts) : (m j : ℕ) → List Tag → Type 0 where
  -- the entry of a callback
  begins : {m : ℕ} (c k : ℕ) → callback_at list c k ≡ Some m → Flow app graph list gone table m 0 (callback_row app (slice_get app.methods m))
  -- on to a successor; after a call, where it leads outside
  goes_on : {m j : ℕ} (i k : ℕ) (a : Act) → act_at app m i ≡ Some a → leads_on a ≡ true → is_call a ≡ false → successor_at app m i k ≡ Some j → IsLive (row_at table m i)
      → Flow app graph list gone table m j (after (site_at app m i) a (row_at table m i))
  back_from_outside : {m j : ℕ} (i k : ℕ) (a : Act) → act_at app m i ≡ Some a → is_call a ≡ true → outside_at graph m i ≡ true → successor_at app m i k ≡ Some j → IsLive (row_at table m i)
      → Flow app graph list gone table m j (after (site_at app m i) a (row_at table m i))
  -- thrown to a handler; by a call, where its receiver is null or it leads outside
  throws : {m j : ℕ} (i k : ℕ) (a : Act) → act_at app m i ≡ Some a → can_throw a ≡ true → handler_at app m i k ≡ Some j → IsLive (row_at table m i)
      → Flow app graph list gone table m j (thrown a (row_at table m i))
  -- arguments into a callee
  enters : (m i : ℕ) (n : MethodNo) (by : By) (usage : LockUse) (arguments : Args) (gives : Gives) → act_at app m i ≡ Some (Call by usage arguments gives)
      → Contains (callees_at graph m i) n → IsLive (row_at table m i)
      → Flow app graph list gone table n.0 0 (callee_row (slice_get app.methods n.0) (call_words by (row_at table m i) arguments))
  -- past a call of a callee, whatever it does; what it returns; and where it throws
  passes_call : {m j : ℕ} (i k : ℕ) (n : MethodNo) → Contains (callees_at graph m i) n → successor_at app m i k ≡ Some j → IsLive (row_at table m i)
      → Flow app graph list gone table m j (without_result (called (gone n.0) (row_at table m i)))
  comes_back : {m j : ℕ} (i k e : ℕ) (n : MethodNo) (answer : Returned) → Contains (callees_at graph m i) n → successor_at app m i k ≡ Some j → IsLive (row_at table m i)
      → act_at app n.0 e ≡ Some (Return answer) → IsLive (row_at table n.0 e)
      → Flow app graph list gone table m j (only_result (row_at table m i) (answered answer (row_at table n.0 e)))
  throws_out : {m j : ℕ} (i k : ℕ) (n : MethodNo) → Contains (callees_at graph m i) n → handler_at app m i k ≡ Some j → IsLive (row_at table m i)
      → Flow app graph list gone table m j (called (gone n.0) (row_at table m i))

-- no flow leads above the table; into a method without instructions none does
pub record IsClosedTable (app : AppParts) (graph : GraphParts) (list : List ComponentParts) (gone : (n l : ℕ) → Bool) (table : TagParts) : Type 0 where
  pub by : {m j : ℕ} {row : List Tag} → Flow app graph list gone table m j row → j < code_len app m → (r : ℕ) → r < length row → Under (tag_in row r) (tag_at table m j r)

abbrev pub TableUnder : TagParts → TagParts → Type 0
TableUnder low high = (m i r : ℕ) → Under (tag_at low m i r) (tag_at high m i r)

-- closed, and under every closed table of the same methods
pub record IsLeastTable (app : AppParts) (graph : GraphParts) (list : List ComponentParts) (gone : (n l : ℕ) → Bool) (table : TagParts) : Type 0 where
  pub closed : IsClosedTable app graph list gone table
  pub least : (other : TagParts) → other.registers ≡ table.registers → IsClosedTable app graph list gone other → TableUnder table other

-- ---- the table of an application with its call graph and its component list
-- a test of which methods the callbacks reach, and one of the lock fields to which the reach of each method stores
abbrev pub TellsReached : GraphParts → List ComponentParts → (ℕ → Bool) → Type 0
TellsReached graph list reached = (m : ℕ) → (reached m ≡ true) ↔ IsReached graph (entries_of list) m

abbrev pub TellsStores : AppParts → GraphParts → ((n l : ℕ) → Bool) → Type 0
TellsStores app graph gone = (n l : ℕ) → (gone n l ≡ true) ↔ Assigns app graph n l

pub record IsTagTableOf (app : AppParts) (graph : GraphParts) (list : List ComponentParts) (table : TagParts) : Type 0 where
  pub reached : ℕ → Bool
  pub reaches : TellsReached graph list reached
  pub gone : (n l : ℕ) → Bool
  pub stores : TellsStores app graph gone
  pub fits : FitsReached app reached table
  pub least : IsLeastTable app graph list gone table
