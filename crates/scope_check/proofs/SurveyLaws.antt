-- A survey, from its parts.
use Rattle.std.proofs.Common.{◌≡◌, ℕ, List, Bool, subst}
use Rattle.flow_model.specs.Breaks.{Candidate}
use Rattle.scope_facts.specs.Bits.{Tells}
use Rattle.scope_facts.specs.Cases.{IsCase}
use Rattle.scope_facts.specs.Fields.{AccessesIn, IsFaulty, IsStatic, MakesIn}
use Rattle.scope_check.specs.declared.survey.Callbacks.{Callbacks}
use Rattle.scope_check.specs.declared.survey.LockSets.{LockSets}
use Rattle.scope_check.specs.declared.survey.Tables.{Tables}
use Rattle.scope_check.specs.Surveys.{Anywhere, AreCallbacks, AreLockSets, AreTables, IsSurvey}

-- the sets of a case, found of its application
pub lock_sets_by : (x seen : Candidate) (marks : List Bool) (statics accessed made faulty : ℕ) → seen ≡ x → Tells statics (IsStatic seen.app) → Tells accessed (Anywhere seen.app marks (AccessesIn seen.app))
    → Tells made (Anywhere seen.app marks (MakesIn seen.app)) → Tells faulty (IsFaulty x made) → AreLockSets x marks (record { statics = statics; accessed = accessed; faulty = faulty })
lock_sets_by x seen marks statics accessed made faulty is static access makes fault = record {
  statics = subst (λ (y : Candidate). Tells statics (IsStatic y.app)) is static;
  accessed = subst (λ (y : Candidate). Tells accessed (Anywhere y.app marks (AccessesIn y.app))) is access;
  made = made;
  makes = subst (λ (y : Candidate). Tells made (Anywhere y.app marks (MakesIn y.app))) is makes;
  faulty = fault;
}

pub survey_by : (x : Candidate) (callbacks : Callbacks) (tables : Tables) (locks : LockSets) (marks : List Bool) → marks ≡ callbacks.reached.items → IsCase x → AreCallbacks x callbacks → AreTables x tables → AreLockSets x marks locks
    → IsSurvey (record { case = x; entries = callbacks.entries.items; reached = callbacks.reached.items; kinds = tables.kinds.items; names = tables.names.items; own = tables.own.items; below = tables.below.items; statics = locks.statics; accessed = locks.accessed; faulty = locks.faulty })
survey_by x callbacks tables locks marks is case called told sets =
    let found : AreLockSets x callbacks.reached.items locks = subst (λ (ms : List Bool). AreLockSets x ms locks) is sets in
    record {
      case = case;
      entries = called.entries;
      reached = called.reached;
      kinds = told.kinds;
      names = told.names;
      own = told.own;
      below = told.below;
      statics = found.statics;
      accessed = found.accessed;
      made = found.made;
      makes = found.makes;
      faulty = found.faulty;
    }
