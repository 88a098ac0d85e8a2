-- How a file is read: piece by piece, to its end or past the limit.
use Rattle.std.specs.Prelude.{◌≡◌, ◌<◌, ◌≤◌, ℕ, List, [], length, take, Option, Some}
use Rattle.ns_base.specs.Answers.{limit_of}
use Rattle.ns_base.specs.declared.answers.Counted.{Counted}
use Rattle.ns_base.specs.Outside.{Rose}
use Rattle.nosleep.specs.declared.reading.Turn.{Turn}
use Rattle.nosleep.specs.declared.reading.Turn.TheVariants.{More, Last}
use Rattle.nosleep.specs.declared.reading.Ending.{Ending}
use Rattle.nosleep.specs.declared.reading.Ending.TheVariants.{Whole, TooLong, Fault}
use Rattle.nosleep.specs.declared.reading.Reading.{Reading}
use Rattle.nosleep.specs.declared.reading.Reading.TheVariants as readings

-- the bytes of a file, where the shelf tells them, have this property
abbrev pub WhereTold : Option (List ℕ) → (List ℕ → Type 0) → Type 0
WhereTold file P = (bs : List ℕ) → file ≡ Some bs → P bs

-- these are the first bytes
abbrev pub IsFront : List ℕ → List ℕ → Type 0
IsFront front bs = front ≡ take (length front) bs

-- what one read does to the bytes that were read before, of a file with this limit
abbrev pub HasTurn : Counted → Option (List ℕ) → List ℕ → List ℕ → ℕ → ℕ → Turn → Type 0
HasTurn which file old new before now More =
    WhereTold file (λ bs. IsFront old bs → IsFront new bs) × (length old < length new) × (length new ≤ limit_of which)
HasTurn which file old new before now (Last Whole) = WhereTold file (λ bs. IsFront old bs → old ≡ bs) × (new ≡ old)
HasTurn which file old new before now (Last TooLong) = WhereTold file (λ bs. IsFront old bs → limit_of which < length bs)
HasTurn which file old new before now (Last Fault) = Rose before now

-- how the reading of a file ends, with these bytes
abbrev pub HasEnding : Counted → Option (List ℕ) → List ℕ → ℕ → ℕ → Ending → Type 0
HasEnding which file bytes before now Whole = WhereTold file (λ bs. bytes ≡ bs) × (length bytes ≤ limit_of which)
HasEnding which file bytes before now TooLong = WhereTold file (λ bs. limit_of which < length bs)
HasEnding which file bytes before now Fault = Rose before now

-- what came of reading a file
abbrev pub HasReading : Counted → Option (List ℕ) → ℕ → ℕ → Reading → Type 0
HasReading which file before now (readings.Whole bytes) = HasEnding which file bytes.items before now Whole
HasReading which file before now readings.TooLong = HasEnding which file [] before now TooLong
HasReading which file before now readings.Fault = HasEnding which file [] before now Fault

-- reading leaves what the shelf tells, and its count does not fall
pub record KeepsShelf {F : Type 0} (content : F → List ℕ → Option (List ℕ)) (faults : F → ℕ) (old new : F) : Type 0 where
  pub same : (n : List ℕ) → content new n ≡ content old n
  pub later : faults old ≤ faults new
