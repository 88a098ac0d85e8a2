-- The refusal of files that are no application.
use Rattle.std.specs.Prelude.{ℕ, List, [], ◌∷◌, ◌++◌, codes}
use Rattle.app_link.specs.declared.link_fault.LinkFault.{LinkFault}
use Rattle.app_link.specs.declared.link_fault.LinkFault.TheVariants.{DuplicateClass, CodeMissing, CodeUnwanted, SuperCycle, Limit, Memory}
use Rattle.report_text.specs.Numbers.{numbers_text}
use Rattle.app_model.specs.Shown.{shown}
use Rattle.report_text.specs.Texts.{line}

-- what is wrong, and the name of the class that comes a second time
abbrev pub link_fault_head : (name : List ℕ) → LinkFault → List ℕ
link_fault_head name (DuplicateClass file row earlier) = codes "DuplicateClass " ++ shown name
link_fault_head name (CodeMissing file method) = codes "CodeMissing"
link_fault_head name (CodeUnwanted file method) = codes "CodeUnwanted"
link_fault_head name (SuperCycle file row) = codes "SuperCycle"
link_fault_head name (Limit which) = codes "Limit"
link_fault_head name Memory = codes "Memory"

abbrev pub link_fault_numbers : LinkFault → List ℕ
link_fault_numbers (DuplicateClass file row earlier) = file ∷ earlier ∷ []
link_fault_numbers (CodeMissing file method) = file ∷ method ∷ []
link_fault_numbers (CodeUnwanted file method) = file ∷ method ∷ []
link_fault_numbers (SuperCycle file row) = file ∷ row ∷ []
link_fault_numbers _ = []

abbrev pub bad_link_text : (name : List ℕ) → LinkFault → List ℕ
bad_link_text name fault = line (codes "bad link " ++ link_fault_head name fault ++ numbers_text (link_fault_numbers fault))
