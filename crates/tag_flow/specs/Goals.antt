-- What is done where a part of the work changes nothing.
use Rattle.std.specs.Prelude.{ℕ, ◌≡◌, ◌<◌, ◌≤◌, true, List, Contains, length, pred, Some, slice_get}
use Rattle.ns_base.specs.declared.rows.MethodNo.{MethodNo}
use Rattle.dalvik.specs.declared.ins.Args.{Args}
use Rattle.app_model.specs.CallGraph.{callees_at, outside_at}
use Rattle.app_model.specs.Components.{entries_of}
use Rattle.app_model.specs.Sites.{site_at}
use Rattle.app_model.specs.TagTable.{row_at, tag_at}
use Rattle.app_model.specs.Words.{code_len, handler_at, successor_at}
use Rattle.app_model.specs.declared.calls.By.{By}
use Rattle.app_model.specs.declared.lock_use.LockUse.{LockUse}
use Rattle.app_model.specs.declared.tag.Tag.{Tag}
use Rattle.act_model.specs.Acts.{act_at}
use Rattle.act_model.specs.Changes.{tag_in}
use Rattle.act_model.specs.Entries.{call_words, callback_row}
use Rattle.act_model.specs.Tags.{Under}
use Rattle.act_model.specs.declared.act.Act.{Act}
use Rattle.act_model.specs.declared.act.Act.TheVariants.{Return, Call}
use Rattle.act_model.specs.declared.act.Gives.{Gives}
use Rattle.act_model.specs.declared.act.Returned.{Returned}
use Rattle.flow_model.specs.TagFlow.{IsLive, answered, callee_row, can_throw, is_call, leads_on}
use Rattle.tag_rows.specs.declared.change.Change.{Change}
use Rattle.tag_rows.specs.declared.change.Change.TheVariants.{After, Thrown, Past, Out}
use Rattle.tag_flow.specs.Known.{KnownParts, is_reached, row_width}
use Rattle.tag_flow.specs.State.{StateParts, answer_of}
use Rattle.tag_flow.specs.Turns.{IsUnion}
use Rattle.tag_rows.specs.Changes.{changed}

-- for each number below a bound
abbrev pub Below : (ℕ → StateParts → Type 0) → (bound : ℕ) → StateParts → Type 0
Below part bound s = (x : ℕ) → x < bound → part x s

-- for each number from one on, below a bound
abbrev pub Between : (ℕ → StateParts → Type 0) → (start bound : ℕ) → StateParts → Type 0
Between part start bound s = (x : ℕ) → start ≤ x → x < bound → part x s

-- a row that lies under the one at instruction j of method m, in one cell
abbrev pub CellUnder : KnownParts → (m j : ℕ) → (StateParts → List Tag) → (r : ℕ) → StateParts → Type 0
CellUnder k m j row r s = Under (tag_in (row s) r) (tag_at s.table m j r)

abbrev pub RowPassed : KnownParts → (m j : ℕ) → (StateParts → List Tag) → StateParts → Type 0
RowPassed k m j row s = Below (CellUnder k m j row) (row_width k.app m) s

-- ---- what flows from instruction i of method m
abbrev pub row_after : (m i : ℕ) → Change → StateParts → List Tag
row_after m i change s = changed change (row_at s.table m i)

-- to successor x; to handler x
abbrev pub Succeeded : KnownParts → (m i : ℕ) → Change → (x : ℕ) → StateParts → Type 0
Succeeded k m i change x s = (j : ℕ) → successor_at k.app m i x ≡ Some j → RowPassed k m j (row_after m i change) s

abbrev pub Handled : KnownParts → (m i : ℕ) → Change → (x : ℕ) → StateParts → Type 0
Handled k m i change x s = (j : ℕ) → handler_at k.app m i x ≡ Some j → RowPassed k m j (row_after m i change) s

abbrev pub AllSucceeded : KnownParts → (m i : ℕ) → Change → StateParts → Type 0
AllSucceeded k m i change s = (x : ℕ) → Succeeded k m i change x s

abbrev pub AllHandled : KnownParts → (m i : ℕ) → Change → StateParts → Type 0
AllHandled k m i change s = (x : ℕ) → Handled k m i change x s

abbrev pub WentOn : KnownParts → (m i : ℕ) → Act → StateParts → Type 0
WentOn k m i a s = leads_on a ≡ true → (is_call a ≡ true → outside_at k.graph m i ≡ true) → AllSucceeded k m i (After (site_at k.app m i) a) s

abbrev pub Threw : KnownParts → (m i : ℕ) → Act → StateParts → Type 0
Threw k m i a s = can_throw a ≡ true → AllHandled k m i (Thrown a) s

-- into callee n, past a call of it, and what it returns
abbrev pub entering_row : KnownParts → (m i n : ℕ) → By → Args → StateParts → List Tag
entering_row k m i n by arguments s = callee_row (slice_get k.app.methods n) (call_words by (row_at s.table m i) arguments)

abbrev pub Entered : KnownParts → (m i : ℕ) → Act → MethodNo → StateParts → Type 0
Entered k m i a n s = (by : By) (usage : LockUse) (arguments : Args) (gives : Gives) → a ≡ Call by usage arguments gives → 0 < code_len k.app n.0
    → RowPassed k n.0 0 (entering_row k m i n.0 by arguments) s

abbrev pub AnswerAt : KnownParts → (m j : ℕ) → MethodNo → StateParts → Type 0
AnswerAt k m j n s = Under (answer_of s n.0) (tag_at s.table m j (pred (row_width k.app m)))

abbrev pub AnswerPassed : KnownParts → (m i : ℕ) → MethodNo → (x : ℕ) → StateParts → Type 0
AnswerPassed k m i n x s = (j : ℕ) → successor_at k.app m i x ≡ Some j → AnswerAt k m j n s

abbrev pub CameBack : KnownParts → (m i : ℕ) → MethodNo → StateParts → Type 0
CameBack k m i n s = (x : ℕ) → AnswerPassed k m i n x s

abbrev pub CalleeDone : KnownParts → (m i : ℕ) → Act → MethodNo → StateParts → Type 0
CalleeDone k m i a n s = Entered k m i a n s × CameBack k m i n s

abbrev pub CallPassed : KnownParts → (m i gone : ℕ) → StateParts → Type 0
CallPassed k m i gone s = AllSucceeded k m i (Past gone) s × AllHandled k m i (Out gone) s

abbrev pub Called : KnownParts → (m i : ℕ) → Act → StateParts → Type 0
Called k m i a s = (n : MethodNo) → Contains (callees_at k.graph m i) n → ((gone : ℕ) × IsUnion k m i gone × CallPassed k m i gone s) × CalleeDone k m i a n s

-- callee number x
abbrev pub CalleeNoDone : KnownParts → (m i : ℕ) → Act → (x : ℕ) → StateParts → Type 0
CalleeNoDone k m i a x s = (n : MethodNo) → slice_get (callees_at k.graph m i) x ≡ Some n → CalleeDone k m i a n s

abbrev pub GaveBack : KnownParts → (m i : ℕ) → Act → StateParts → Type 0
GaveBack k m i a s = (answer : Returned) → a ≡ Return answer → Under (answered answer (row_at s.table m i)) (answer_of s m)

abbrev pub IsVisited : KnownParts → (m i : ℕ) → StateParts → Type 0
IsVisited k m i s = IsLive (row_at s.table m i) → (a : Act) → act_at k.app m i ≡ Some a → (WentOn k m i a s × Threw k m i a s) × (Called k m i a s × GaveBack k m i a s)

-- ---- all of it
-- at the entry of a callback
abbrev pub begun_row : KnownParts → (m : ℕ) → StateParts → List Tag
begun_row k m s = callback_row k.app (slice_get k.app.methods m)

abbrev pub EntryBegun : KnownParts → MethodNo → StateParts → Type 0
EntryBegun k n s = 0 < code_len k.app n.0 → RowPassed k n.0 0 (begun_row k n.0) s

abbrev pub EntryNoBegun : KnownParts → (x : ℕ) → StateParts → Type 0
EntryNoBegun k x s = (n : MethodNo) → slice_get (entries_of k.list) x ≡ Some n → EntryBegun k n s

abbrev pub AllBegun : KnownParts → StateParts → Type 0
AllBegun k s = (n : MethodNo) → Contains (entries_of k.list) n → EntryBegun k n s

-- of a method that is reached
abbrev pub MethodVisited : KnownParts → (m : ℕ) → StateParts → Type 0
MethodVisited k m s = is_reached k m ≡ true → Below (IsVisited k m) (code_len k.app m) s

abbrev pub AllVisited : KnownParts → StateParts → Type 0
AllVisited k s = AllBegun k s × Below (MethodVisited k) (length k.app.methods) s
