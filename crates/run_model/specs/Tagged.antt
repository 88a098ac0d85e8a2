-- What soundness asks of a subject: tags that follow the code, into callees and back, and no use of a lock that the tags
-- can't follow. A subject in scope has it.
use Rattle.std.specs.Prelude.{ℕ, ◌≡◌, ◌<◌, ◌↔◌, Bool, true, false, List, Contains, length, is_some, Some, slice_get, slice_set}
use Rattle.dalvik.specs.declared.ins.Args.{Args}
use Rattle.app_model.specs.declared.calls.By.{By}
use Rattle.app_model.specs.declared.lock_use.LockUse.{LockUse}
use Rattle.app_model.specs.declared.tag.Tag.{Tag}
use Rattle.app_model.specs.Components.{callback_at}
use Rattle.app_model.specs.Reach.{Assigns}
use Rattle.app_model.specs.Sites.{site_at}
use Rattle.app_model.specs.Subject.{SubjectParts, callees_at, is_reached, outside_at, row_at}
use Rattle.app_model.specs.Targets.{is_plain, method_no, targets_in}
use Rattle.app_model.specs.Words.{successor_at, handler_at, ins_at}
use Rattle.app_model.specs.CallGraph.{targets_at}
use Rattle.app_model.specs.LockUse.{invoke_of}
use Rattle.act_model.specs.declared.act.Act.{Act}
use Rattle.act_model.specs.declared.act.Act.TheVariants.{Call, Return}
use Rattle.act_model.specs.declared.act.Gives.{Gives}
use Rattle.act_model.specs.declared.act.Returned.{Returned}
use Rattle.act_model.specs.Acts.{act_at}
use Rattle.act_model.specs.Changes.{tag_in, after, called, result_cell, thrown}
use Rattle.act_model.specs.Entries.{call_words, callback_row}
use Rattle.act_model.specs.Tags.{Under}
use Rattle.flow_model.specs.Scope.{is_escape, is_wrong_call}
use Rattle.flow_model.specs.TagFlow.{IsLive, answered, callee_row, can_throw, leads_on}

-- each tag is under the other row's tag of the same register
pub record IsUnder (low high : List Tag) : Type 0 where
  pub same : length low ≡ length high
  pub each : (r : ℕ) → r < length low → Under (tag_in low r) (tag_in high r)

-- a call that may enter a method of the application: no lock call, and none that makes a lock
abbrev pub is_plain_call : Act → Bool
is_plain_call (Call by usage arguments gives) = is_plain usage
is_plain_call act = false

-- tags flow from the call at instruction i of method m into its callee n, back from each of its returns, and out of it
-- where it throws; `gone` has the lock fields to which the reach of n stores
pub record IsFollowed (x : SubjectParts) (m i n : ℕ) : Type 0 where
  pub reached : is_reached x n ≡ true
  pub gone : ℕ → Bool
  pub assigns : (l : ℕ) → (gone l ≡ true) ↔ Assigns x.app x.graph n l
  pub enters : (by : By) (usage : LockUse) (arguments : Args) (gives : Gives) → act_at x.app m i ≡ Some (Call by usage arguments gives)
      → IsUnder (callee_row (slice_get x.app.methods n) (call_words by (row_at x m i) arguments)) (row_at x n 0)
  pub returns : (k j e : ℕ) (answer : Returned) → successor_at x.app m i k ≡ Some j → act_at x.app n e ≡ Some (Return answer) → IsLive (row_at x n e)
      → IsUnder (slice_set (called gone (row_at x m i)) (result_cell (row_at x m i)) (answered answer (row_at x n e))) (row_at x m j)
  pub throws : (k j : ℕ) → handler_at x.app m i k ≡ Some j → IsUnder (called gone (row_at x m i)) (row_at x m j)

pub record IsTagged (x : SubjectParts) : Type 0 where
  -- callbacks are reached
  pub callbacks : (c k m : ℕ) → callback_at x.list c k ≡ Some m → is_reached x m ≡ true
  -- tags flow from the entry, to each successor, of a plain call where it leads outside, and to each handler
  pub entries : (c k m : ℕ) → callback_at x.list c k ≡ Some m → IsUnder (callback_row x.app (slice_get x.app.methods m)) (row_at x m 0)
  pub flows : (m i k j : ℕ) (a : Act) → is_reached x m ≡ true → IsLive (row_at x m i) → act_at x.app m i ≡ Some a → leads_on a ≡ true → (is_plain_call a ≡ true → outside_at x m i ≡ true)
      → successor_at x.app m i k ≡ Some j → IsUnder (after (site_at x.app m i) a (row_at x m i)) (row_at x m j)
  pub throws : (m i k j : ℕ) (a : Act) → is_reached x m ≡ true → IsLive (row_at x m i) → act_at x.app m i ≡ Some a → can_throw a ≡ true → handler_at x.app m i k ≡ Some j → IsUnder (thrown a (row_at x m i)) (row_at x m j)
  -- and through each call that may enter a method
  pub calls : (m i n : ℕ) → is_reached x m ≡ true → IsLive (row_at x m i) → Contains (callees_at x m i) (method_no n) → IsFollowed x m i n
  -- no lock goes where it is not followed
  pub no_escape : (m i : ℕ) → is_reached x m ≡ true → is_escape (act_at x.app m i) (row_at x m i) ≡ false
  pub no_wrong_call : (m i : ℕ) → is_reached x m ≡ true → is_wrong_call (act_at x.app m i) (row_at x m i) ≡ false
  -- the call graph has what the calls of reached methods can call
  pub graph : (m i : ℕ) → is_reached x m ≡ true → is_some (invoke_of (ins_at x.app m i)) ≡ true → targets_at x.graph m i ≡ targets_in x.app m i
