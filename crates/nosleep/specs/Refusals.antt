-- Why files are refused, and with which exit and text.
use Rattle.std.specs.Prelude.{ℕ, ◌≡◌, Bool, true, false, List, [], Option, Some, None}
use Rattle.ns_base.specs.declared.answers.Counted.{Counted}
use Rattle.ns_base.specs.declared.answers.Exit.{Exit}
use Rattle.ns_base.specs.declared.answers.Exit.TheVariants as exits
use Rattle.dex_bytes.specs.declared.fault.DexFault.TheVariants as dex
use Rattle.dalvik_decode.specs.declared.faults.CodeFault.TheVariants as code
use Rattle.dex_file.specs.declared.fault.FileFault.{FileFault}
use Rattle.dex_file.specs.declared.fault.FileFault.TheVariants as file
use Rattle.app_link.specs.declared.link_fault.LinkFault.{LinkFault}
use Rattle.app_link.specs.declared.link_fault.LinkFault.TheVariants as link
use Rattle.component_list.specs.declared.fault.ListFault.{ListFault}
use Rattle.component_list.specs.declared.fault.ListFault.TheVariants as listed
use Rattle.component_list.specs.Reading as lists
use Rattle.report_text.specs.CodeFaults.{bad_code_text}
use Rattle.report_text.specs.DexFaults.{bad_dex_text}
use Rattle.report_text.specs.Limits.{over_limit_text}
use Rattle.report_text.specs.LinkFaults.{bad_link_text}
use Rattle.report_text.specs.ListFaults.{bad_list_text}
use Rattle.report_text.specs.Refusals.{refused_text}
use Rattle.scope_check.specs.declared.scoping.ScopeFault.{ScopeFault}
use Rattle.scope_check.specs.declared.scoping.ScopeFault.TheVariants as scope

pub data Refusal : Type 0 where
  -- the list, or what it names in the application
  InList : ListFault → Refusal
  -- the DEX file of this number
  InFile : (number : ℕ) → FileFault → Refusal
  -- the files together; the name is that of the class that the fault names, where it names one
  InLink : (name : List ℕ) → LinkFault → Refusal
  -- what is found of the code of the application is too much
  Exceeds : Counted → Refusal
  -- the application is not in scope
  OutOfScope : ScopeFault → Refusal

-- ---- its text
abbrev pub refusal_text : Refusal → List ℕ
refusal_text (InList fault) = bad_list_text fault
refusal_text (InFile number (file.Dex fault)) = bad_dex_text number fault
refusal_text (InFile number (file.Code method fault)) = bad_code_text number method fault
refusal_text (InFile number file.Memory) = []
refusal_text (InLink name fault) = bad_link_text name fault
refusal_text (Exceeds which) = over_limit_text which
refusal_text (OutOfScope fault) = refused_text fault

-- ---- a count that exceeds its limit has another text and exit
abbrev pub list_limit : ListFault → Option Counted
list_limit (listed.Limit which) = Some which
list_limit fault = None

abbrev pub file_limit : FileFault → Option Counted
file_limit (file.Dex (dex.Limit which)) = Some which
file_limit (file.Dex fault) = None
file_limit (file.Code method fault) = None
file_limit file.Memory = None

abbrev pub link_limit : LinkFault → Option Counted
link_limit (link.Limit which) = Some which
link_limit fault = None

abbrev pub refusal_limit : Refusal → Option Counted
refusal_limit (InList fault) = list_limit fault
refusal_limit (InFile number fault) = file_limit fault
refusal_limit (InLink name fault) = link_limit fault
refusal_limit (Exceeds which) = Some which
refusal_limit (OutOfScope fault) = None

-- ---- want of memory is no refusal
abbrev pub is_file_memory : FileFault → Bool
is_file_memory (file.Dex dex.Memory) = true
is_file_memory (file.Dex fault) = false
is_file_memory (file.Code method code.Memory) = true
is_file_memory (file.Code method fault) = false
is_file_memory file.Memory = true

abbrev pub is_link_memory : LinkFault → Bool
is_link_memory link.Memory = true
is_link_memory fault = false

abbrev pub is_scope_memory : ScopeFault → Bool
is_scope_memory scope.Memory = true
is_scope_memory fault = false

abbrev pub is_memory : Refusal → Bool
is_memory (InList fault) = lists.is_memory fault
is_memory (InFile number fault) = is_file_memory fault
is_memory (InLink name fault) = is_link_memory fault
is_memory (Exceeds which) = false
is_memory (OutOfScope fault) = is_scope_memory fault

-- ---- the exit and text of a refusal
-- where no count exceeds its limit
abbrev pub refusal_exit : Refusal → Exit
refusal_exit (InList fault) = exits.Bad
refusal_exit (InFile number fault) = exits.Bad
refusal_exit (InLink name fault) = exits.Bad
refusal_exit (Exceeds which) = exits.Limit
refusal_exit (OutOfScope fault) = exits.Scope

abbrev pub IsOver : Counted → List ℕ → Exit → Type 0
IsOver which text exit = (exit ≡ exits.Limit) × (text ≡ over_limit_text which)

abbrev pub IsRefusedAs : Option Counted → (by : Exit) (wanted : List ℕ) → List ℕ → Exit → Type 0
IsRefusedAs None by wanted text exit = (exit ≡ by) × (text ≡ wanted)
IsRefusedAs (Some which) by wanted text exit = IsOver which text exit

abbrev pub IsRefused : Refusal → List ℕ → Exit → Type 0
IsRefused refusal text exit = (is_memory refusal ≡ false) × IsRefusedAs (refusal_limit refusal) (refusal_exit refusal) (refusal_text refusal) text exit
