-- What came of reading the files of a form.
use Rattle.std.specs.Prelude.{ℕ, ◌≡◌, ◌<◌, List, length, map, Option, Some, slice_get}
use Rattle.ns_base.specs.Outside.{Rose}
use Rattle.ns_base.specs.Answers.{limit_of}
use Rattle.ns_base.specs.declared.answers.Event.{Event}
use Rattle.nosleep.specs.Answer.{AreTakenTo}
use Rattle.nosleep.specs.Events.{reads_from}
use Rattle.nosleep.specs.Reading.{WhereTold}
use Rattle.nosleep.specs.Words.{FileName}
use Rattle.nosleep.specs.declared.files.Taken.{Taken}
use Rattle.nosleep.specs.declared.files.Taken.TheVariants.{Whole, TooLong, Fault}

-- file number i is the last that was looked at; these are the events of those before it
pub record StopsAt (content : List ℕ → Option (List ℕ)) (files : List FileName) (i : ℕ) (events : List Event) (P : FileName → Type 0) : Type 0 where
  pub file : FileName
  pub there : slice_get files i ≡ Some file
  pub all : List (List ℕ)
  pub taken : AreTakenTo content files i all
  pub told : events ≡ reads_from 0 all
  pub why : P file

abbrev pub IsTooLong : (List ℕ → Option (List ℕ)) → FileName → Type 0
IsTooLong content file = WhereTold (content file.name) (λ bs. limit_of file.limit < length bs)

abbrev pub HasTaken : (List ℕ → Option (List ℕ)) → List FileName → ℕ → ℕ → List Event → Taken → Type 0
HasTaken content files before now events (Whole all) =
    AreTakenTo content files (length files) (map (λ bytes. bytes.items) all.items) × (events ≡ reads_from 0 (map (λ bytes. bytes.items) all.items))
HasTaken content files before now events (TooLong i) = StopsAt content files i events (IsTooLong content)
HasTaken content files before now events (Fault i) = StopsAt content files i events (λ file. Rose before now)
