-- The events of a run, and how telling them ends.
use Rattle.std.specs.Prelude.{ℕ, suc, ◌≡◌, ◌≢◌, ◌<◌, true, List, [], ◌∷◌, ◌++◌, length, map, Some, slice_get, Result, Ok, Err}
use Rattle.ns_base.specs.Answers.{number_of}
use Rattle.ns_base.specs.Outside.{Rose}
use Rattle.ns_base.specs.declared.answers.Event.{Event}
use Rattle.ns_base.specs.declared.answers.Event.TheVariants.{Read, Held, Ended}
use Rattle.ns_base.specs.declared.answers.Exit.{Exit}
use Rattle.ns_base.specs.declared.answers.Exit.TheVariants as exits
use Rattle.app_model.specs.Subject.{SubjectParts}
use Rattle.flow_model.specs.Policy.{AreViolations}
use Rattle.flow_model.specs.declared.policy.Violation.{Violation}
use Rattle.one_scope.specs.Alike.{AreAlike}
use Rattle.watchers.specs.Telling.{IsTold, Seen, ToldAll, is_chosen}
use Rattle.nosleep.specs.Refusals.{Refusal}

-- ---- the events
abbrev pub held_of : Violation → Event
held_of v = Held v.component v.callback v.lock v.status

-- each of these files was read whole; the first one has this number
abbrev pub reads_from : ℕ → List (List ℕ) → List Event
reads_from n [] = []
reads_from n (bytes ∷ files) = Read n (length bytes) ∷ reads_from (suc n) files

-- after the events of reading, those of the violations and of the exit
abbrev pub ended_by : List Event → List Violation → Exit → List Event
ended_by reads found exit = reads ++ map held_of found ++ Ended (number_of exit) ∷ []

-- of the files that were read whole, the violations and the exit
abbrev pub events_of : List (List ℕ) → List Violation → Exit → List Event
events_of files found exit = ended_by (reads_from 0 files) found exit

-- the violations that are told of what bytes come to: on the exit of reports all that the rules derive, else none
abbrev pub AreHelds : Result SubjectParts Refusal → Exit → List Violation → Type 0
AreHelds (Ok x) exit found = ((y : SubjectParts) → AreAlike x y → exit ≡ exits.Reports → AreViolations y found) × (exit ≢ exits.Reports → found ≡ [])
AreHelds (Err refusal) exit found = found ≡ []

-- ---- telling
-- so it is of each watcher of a list, seen before and now
abbrev pub AtEach : (Seen → Seen → Type 0) → List Seen → List Seen → Type 0
AtEach P before now = (i : ℕ) (old new : Seen) → slice_get before i ≡ Some old → slice_get now i ≡ Some new → P old new

-- the count of a chosen one rose
pub record OneRose (kinds : List ℕ) (before now : List Seen) : Type 0 where
  pub at : ℕ
  pub old : Seen
  pub new : Seen
  pub old_there : slice_get before at ≡ Some old
  pub new_there : slice_get now at ≡ Some new
  pub chosen : is_chosen kinds old.kind ≡ true
  pub rose : Rose old.faults new.faults

-- How the call ends on this exit by what the watchers of the chosen kinds answer to the events.
pub data IsToldEnd (exit : Exit) (kinds : List ℕ) (all : List Event) (before now : List Seen) (result : Exit) : Type 0 where
  whole : AtEach (λ old new. is_chosen kinds old.kind ≡ true → ToldAll all old new) before now → result ≡ exit → IsToldEnd exit kinds all before now result
  fault : OneRose kinds before now → AtEach (λ old new. is_chosen kinds old.kind ≡ true → ¬ Rose old.faults new.faults → ToldAll all old new) before now → result ≡ exits.WatcherFault
      → IsToldEnd exit kinds all before now result
  -- memory ran out
  partly : result ≡ exits.Partly → IsToldEnd exit kinds all before now result

-- in each case each was told a front of them, and its kind stays
pub record AreWatchersTold (exit : Exit) (kinds : List ℕ) (all : List Event) (before now : List Seen) (result : Exit) : Type 0 where
  pub len : length now ≡ length before
  pub fronts : AtEach (IsTold kinds all) before now
  pub ends : IsToldEnd exit kinds all before now result
