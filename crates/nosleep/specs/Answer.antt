-- The answer to a command line and files: which exit comes, with which text, and why.
use Rattle.std.specs.Prelude.{◌≡◌, ◌≢◌, ◌⊎◌, ◌<◌, ◌≤◌, ℕ, List, [], ◌∷◌, length, slice_get, Option, Some, None, Result, Ok, Err}
use Rattle.ns_base.specs.declared.answers.Event.{Event}
use Rattle.ns_base.specs.declared.answers.Exit.{Exit}
use Rattle.ns_base.specs.declared.answers.Exit.TheVariants as exits
use Rattle.ns_base.specs.declared.answers.Counted.TheVariants.{Files}
use Rattle.ns_base.specs.Outside.{Rose}
use Rattle.ns_base.specs.Answers.{limit_of}
use Rattle.app_model.specs.Subject.{SubjectParts}
use Rattle.app_model.specs.declared.component.Kind.TheVariants as kinds
use Rattle.component_list.specs.Listed.{ListedParts}
use Rattle.component_list.specs.Reading.{listed_of}
use Rattle.one_scope.specs.Alike.{AreAlike}
use Rattle.report_text.specs.Limits.{over_limit_text}
use Rattle.report_text.specs.Texts.{usage_text, cannot_read_text}
use Rattle.flow_model.specs.declared.policy.Violation.{Violation}
use Rattle.watchers.specs.Telling.{Seen}
use Rattle.nosleep.specs.Events.{AreHelds, AreWatchersTold, events_of}
use Rattle.nosleep.specs.Files.{ComesTo}
use Rattle.nosleep.specs.Judged.{IsJudgement}
use Rattle.nosleep.specs.Reading.{WhereTold}
use Rattle.nosleep.specs.Refusals.{Refusal, IsRefused}
use Rattle.nosleep.specs.Words.{FileName, Form, Receiver, Verify, Check, dex_names, files_of, form_of}
use Rattle.watchers.specs.Writing.{WroteAll, WrotePart}

-- ---- the files of a form
-- the bytes of a file, where the shelf tells them, and no more than its limit
pub record IsTaken (content : List ℕ → Option (List ℕ)) (file : FileName) (bytes : List ℕ) : Type 0 where
  pub told : WhereTold (content file.name) (λ bs. bytes ≡ bs)
  pub limit : length bytes ≤ limit_of file.limit

-- of each of the first n files these bytes
pub record AreTakenTo (content : List ℕ → Option (List ℕ)) (files : List FileName) (n : ℕ) (all : List (List ℕ)) : Type 0 where
  pub len : length all ≡ n
  pub each : (i : ℕ) (file : FileName) (bytes : List ℕ) → slice_get files i ≡ Some file → slice_get all i ≡ Some bytes → IsTaken content file bytes

-- ---- what a form judges
-- a list of the one receiver of this class; its callback is an exit
abbrev pub one_receiver : List ℕ → List ListedParts
one_receiver class = record { kind = kinds.Receiver; class = class; exits = 1 } ∷ []

-- what the bytes of a form's files come to
abbrev pub BytesComeTo : Form → List (List ℕ) → Result SubjectParts Refusal → Type 0
BytesComeTo (Receiver dex class) files result = ComesTo (Ok (one_receiver class)) files result
BytesComeTo (Verify list dex) [] result = ⊥
BytesComeTo (Verify list dex) (bytes ∷ files) result = ComesTo (listed_of bytes) files result
BytesComeTo (Check cert list dex) [] result = ⊥
BytesComeTo (Check cert list dex) (one ∷ []) result = ⊥
BytesComeTo (Check cert list dex) (one ∷ bytes ∷ files) result = ComesTo (listed_of bytes) files result

-- the exit and text of that: of a subject, the judgement of each that is in scope of its application and list
abbrev pub IsOutcomeBy : (SubjectParts → List ℕ → Exit → Type 0) → Result SubjectParts Refusal → List ℕ → Exit → Type 0
IsOutcomeBy P (Ok x) text exit = (y : SubjectParts) → AreAlike x y → P y text exit
IsOutcomeBy P (Err refusal) text exit = IsRefused refusal text exit

abbrev pub IsOutcome : Form → List (List ℕ) → Result SubjectParts Refusal → List ℕ → Exit → Type 0
IsOutcome form files result text exit = IsOutcomeBy (IsJudgement form files) result text exit

-- ---- words and files
-- The words and the files come to this text, exit and events. Before and now are the shelf's counts of faults. Want of
-- memory may come always.
pub data IsAnswer (words : List (List ℕ)) (content : List ℕ → Option (List ℕ)) (before now : ℕ) : List ℕ → Exit → List Event → Type 0 where
  usage : form_of words ≡ None → IsAnswer words content before now usage_text exits.Usage []
  many_files : (form : Form) → form_of words ≡ Some form → limit_of Files < length (dex_names form)
      → IsAnswer words content before now (over_limit_text Files) exits.Limit (events_of [] [] exits.Limit)
  -- a file that is not read, or is too long, where no file before it is too long
  unread : (form : Form) (i : ℕ) (file : FileName) (all : List (List ℕ)) → form_of words ≡ Some form → length (dex_names form) ≤ limit_of Files
      → slice_get (files_of form) i ≡ Some file → AreTakenTo content (files_of form) i all → Rose before now
      → IsAnswer words content before now (cannot_read_text file.name) exits.ReadFault (events_of all [] exits.ReadFault)
  too_long : (form : Form) (i : ℕ) (file : FileName) (all : List (List ℕ)) → form_of words ≡ Some form → length (dex_names form) ≤ limit_of Files
      → slice_get (files_of form) i ≡ Some file → AreTakenTo content (files_of form) i all → WhereTold (content file.name) (λ bs. limit_of file.limit < length bs)
      → IsAnswer words content before now (over_limit_text file.limit) exits.Limit (events_of all [] exits.Limit)
  read : (form : Form) (all : List (List ℕ)) (result : Result SubjectParts Refusal) (text : List ℕ) (exit : Exit) (found : List Violation) → form_of words ≡ Some form
      → length (dex_names form) ≤ limit_of Files → AreTakenTo content (files_of form) (length (files_of form)) all → BytesComeTo form all result → IsOutcome form all result text exit
      → AreHelds result exit found → IsAnswer words content before now text exit (events_of all found exit)
  starved : IsAnswer words content before now [] exits.Memory []

-- How the call ends on that exit, text and events: the text is written and the watchers of the chosen kinds are told the
-- events, or the sink's count rose and a front of the text was written.
pub data IsEnd (exit : Exit) (text : List ℕ) (kinds : List ℕ) (all : List Event) (result : Exit) (taken_before taken_now : Option (List ℕ)) (faults_before faults_now : ℕ) (before now : List Seen) : Type 0 where
  written : WroteAll taken_before taken_now text → AreWatchersTold exit kinds all before now result → IsEnd exit text kinds all result taken_before taken_now faults_before faults_now before now
  cut : result ≡ exits.WriteFault → exit ≢ exits.Memory → WrotePart taken_before taken_now text → Rose faults_before faults_now
      → IsEnd exit text kinds all result taken_before taken_now faults_before faults_now before now

-- ---- files that are told
-- the shelf tells these bytes of each file, and none has more than its limit
pub record AreTold (content : List ℕ → Option (List ℕ)) (form : Form) (all : List (List ℕ)) : Type 0 where
  pub few : length (dex_names form) ≤ limit_of Files
  pub len : length all ≡ length (files_of form)
  pub each : (i : ℕ) (file : FileName) (bytes : List ℕ) → slice_get (files_of form) i ≡ Some file → slice_get all i ≡ Some bytes
      → (content file.name ≡ Some bytes) × (length bytes ≤ limit_of file.limit)

-- they are an application that is judged, as this subject
abbrev pub AreJudged : Form → List (List ℕ) → SubjectParts → Type 0
AreJudged form all x = BytesComeTo form all (Ok x)

-- a file could not be read, or memory ran out before it was judged
abbrev pub IsUnjudged : Exit → Type 0
IsUnjudged exit = (exit ≡ exits.ReadFault) ⊎ (exit ≡ exits.Memory)

-- memory ran out, before the text was written or after it
abbrev pub IsStarved : Exit → Type 0
IsStarved exit = (exit ≡ exits.Memory) ⊎ (exit ≡ exits.Partly)

-- no watcher is told anything
abbrev pub IsUntold : Exit → Type 0
IsUntold exit = (exit ≡ exits.Usage) ⊎ ((exit ≡ exits.WriteFault) ⊎ (exit ≡ exits.Memory))

-- the outside failed, or memory ran out
abbrev pub IsFailure : Exit → Type 0
IsFailure exit = (exit ≡ exits.ReadFault) ⊎ ((exit ≡ exits.WriteFault) ⊎ ((exit ≡ exits.WatcherFault) ⊎ IsStarved exit))

-- the exit is the judgement of the subject, whose text is written
abbrev pub IsExact : Form → List (List ℕ) → SubjectParts → Exit → Option (List ℕ) → Option (List ℕ) → Type 0
IsExact form all x exit before now = (text : List ℕ) × IsJudgement form all x text exit × WroteAll before now text

-- the exits of a subject in scope, by form
abbrev pub Judges : Form → Exit → Type 0
Judges (Receiver dex class) exit = (exit ≡ exits.Accept) ⊎ (exit ≡ exits.Reports)
Judges (Verify list dex) exit = (exit ≡ exits.Accept) ⊎ ((exit ≡ exits.Reports) ⊎ (exit ≡ exits.Limit))
Judges (Check cert list dex) exit = (exit ≡ exits.Accept) ⊎ ((exit ≡ exits.Broken) ⊎ (exit ≡ exits.Bad))
