-- All that is known before the rules are looked at.
use Rattle.std.specs.Prelude.{ℕ, ◌≡◌, List, length, Bool}
use Rattle.ns_base.specs.declared.rows.MethodNo.{MethodNo}
use Rattle.app_model.specs.Components.{entries_of}
use Rattle.app_model.specs.Parts.{AppParts}
use Rattle.call_reach.specs.Starts.{AreGathered, AreReached}
use Rattle.flow_model.specs.Breaks.{Candidate}
use Rattle.scope_facts.specs.declared.kinds.KindRow.{KindRow}
use Rattle.scope_facts.specs.declared.names.NameRow.{NameRow}
use Rattle.scope_check.specs.declared.survey.Callbacks.{Callbacks}
use Rattle.scope_check.specs.declared.survey.LockSets.{LockSets}
use Rattle.scope_check.specs.declared.survey.Tables.{Tables}
use Rattle.scope_facts.specs.Bits.{HoldsBelow, Tells}
use Rattle.scope_facts.specs.Cases.{IsCase}
use Rattle.scope_facts.specs.Fields.{AccessesIn, InReached, IsFaulty, IsStatic, MakesIn}
use Rattle.scope_facts.specs.LockCode.{AreLockWords}
use Rattle.scope_facts.specs.Texts.{AreKinds, AreNames}

pub record SurveyParts : Type 0 where
  pub case : Candidate
  pub entries : List MethodNo
  pub reached : List Bool
  pub kinds : List KindRow
  pub names : List NameRow
  pub own : List ℕ
  pub below : List ℕ
  pub statics : ℕ
  pub accessed : ℕ
  pub faulty : ℕ

-- among the methods that are reached
abbrev pub Anywhere : (app : AppParts) → (marks : List Bool) → ((m l : ℕ) → Type 0) → ℕ → Type 0
Anywhere app marks P = HoldsBelow (length app.methods) (InReached marks P)

pub record AreCallbacks (x : Candidate) (callbacks : Callbacks) : Type 0 where
  pub entries : callbacks.entries.items ≡ entries_of x.list
  pub reached : AreReached x.app x.graph (entries_of x.list) callbacks.reached.items

pub record AreTables (x : Candidate) (tables : Tables) : Type 0 where
  pub kinds : AreKinds x.app tables.kinds.items
  pub names : AreNames x.app tables.names.items
  pub own : AreLockWords x.app tables.own.items
  pub below : AreGathered x.app x.graph tables.own.items tables.below.items

-- where the methods that are reached have marks
pub record AreLockSets (x : Candidate) (marks : List Bool) (locks : LockSets) : Type 0 where
  pub statics : Tells locks.statics (IsStatic x.app)
  pub accessed : Tells locks.accessed (Anywhere x.app marks (AccessesIn x.app))
  pub made : ℕ
  pub makes : Tells made (Anywhere x.app marks (MakesIn x.app))
  pub faulty : Tells locks.faulty (IsFaulty x made)

pub record IsSurvey (s : SurveyParts) : Type 0 where
  pub case : IsCase s.case
  pub entries : s.entries ≡ entries_of s.case.list
  pub reached : AreReached s.case.app s.case.graph (entries_of s.case.list) s.reached
  pub kinds : AreKinds s.case.app s.kinds
  pub names : AreNames s.case.app s.names
  pub own : AreLockWords s.case.app s.own
  pub below : AreGathered s.case.app s.case.graph s.own s.below
  pub statics : Tells s.statics (IsStatic s.case.app)
  pub accessed : Tells s.accessed (Anywhere s.case.app s.reached (AccessesIn s.case.app))
  pub made : ℕ
  pub makes : Tells made (Anywhere s.case.app s.reached (MakesIn s.case.app))
  pub faulty : Tells s.faulty (IsFaulty s.case made)
