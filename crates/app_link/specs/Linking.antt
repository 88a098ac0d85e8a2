-- What linking files answers.
use Rattle.std.specs.Prelude.{ℕ, ◌≡◌, ◌≤◌, List, length, Option, Some, None, Result, Ok, Err, slice_get}
use Rattle.std.specs.List.{All}
use Rattle.app_model.specs.Parts.{AppParts, ClassParts}
use Rattle.app_link.specs.declared.link_fault.LinkFault.{LinkFault}
use Rattle.app_link.specs.declared.link_fault.LinkFault.TheVariants.{DuplicateClass, CodeMissing, CodeUnwanted, SuperCycle, Limit, Memory}
use Rattle.app_link.specs.declared.code_checks.CodeWrong.TheVariants.{Missing, Unwanted}
use Rattle.dex_file.specs.Content.{FileContent}
use Rattle.dex_file.specs.Sizes.{IsShort}
use Rattle.app_rows.specs.Linked.{linked}
use Rattle.app_model.specs.Ancestors.{IsCyclic}
use Rattle.app_link.specs.LinkFaults.{◌or◌, class_place, duplicate_fault, code_fault_from, IsAcyclicBelow, units_fault, locks_fault, sites_fault}

-- the files of an application: their members were counted when they were read
pub record AreShort (files : List FileContent) : Type 0 where
  pub count : length files ≤ 16
  pub each : All IsShort files

-- the faults that come before those of superclasses
abbrev pub early_fault : List FileContent → Option LinkFault
early_fault files = duplicate_fault files or (code_fault_from Missing 0 files or code_fault_from Unwanted 0 files)

-- those that come after them
abbrev pub late_fault : List FileContent → Option LinkFault
late_fault files = units_fault files or (locks_fault (linked files) or sites_fault (linked files))

-- rows within the limits of code units and lock fields
abbrev pub IsWithin : Option LinkFault → AppParts → Result AppParts LinkFault → Type 0
IsWithin units rows (Ok same) = (same ≡ rows) × (units ≡ None) × (locks_fault rows ≡ None)
IsWithin units rows (Err fault) = (units or (locks_fault rows or sites_fault rows)) ≡ Some fault

-- no class is its own ancestor
abbrev pub IsAcyclic : List FileContent → Type 0
IsAcyclic files = IsAcyclicBelow (linked files).classes (length (linked files).classes)

-- the first class that is its own ancestor has this file and row
pub record IsFirstCycle (files : List FileContent) (file row : ℕ) : Type 0 where
  pub number : ℕ
  pub class : ClassParts
  pub there : slice_get (linked files).classes number ≡ Some class
  pub cyclic : IsCyclic (linked files).classes class
  pub first : IsAcyclicBelow (linked files).classes number
  pub place : class_place files number ≡ record { file = file; row = row }

-- the application where there is no fault, or else the first fault; or memory ran out
abbrev pub IsLinked : List FileContent → Result AppParts LinkFault → Type 0
IsLinked files (Ok app) = (app ≡ linked files) × (early_fault files ≡ None) × IsAcyclic files × (late_fault files ≡ None)
IsLinked files (Err (SuperCycle file row)) = (early_fault files ≡ None) × IsFirstCycle files file row
IsLinked files (Err (Limit which)) = (early_fault files ≡ None) × IsAcyclic files × (late_fault files ≡ Some (Limit which))
IsLinked files (Err (DuplicateClass file row earlier)) = early_fault files ≡ Some (DuplicateClass file row earlier)
IsLinked files (Err (CodeMissing file method)) = early_fault files ≡ Some (CodeMissing file method)
IsLinked files (Err (CodeUnwanted file method)) = early_fault files ≡ Some (CodeUnwanted file method)
IsLinked files (Err Memory) = Unit {0}

-- the rows of the application where there is no fault but too many calls that make a lock, or else the first fault
abbrev pub IsChecked : List FileContent → Result AppParts LinkFault → Type 0
IsChecked files (Ok rows) = (rows ≡ linked files) × (early_fault files ≡ None) × IsAcyclic files × (units_fault files ≡ None) × (locks_fault (linked files) ≡ None)
IsChecked files (Err fault) = IsLinked files (Err fault)
