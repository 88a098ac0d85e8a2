-- The refusal of a component list.
use Rattle.std.specs.Prelude.{ℕ, List, [], ◌∷◌, ◌++◌, codes}
use Rattle.component_list.specs.declared.fault.ListFault.{ListFault}
use Rattle.component_list.specs.declared.fault.ListFault.TheVariants.{Text, Key, Kind, EmptyExits, ExitName, Twice, NoClass, NoCallback, Limit, Memory}
use Rattle.report_text.specs.Numbers.{numbers_text}
use Rattle.app_model.specs.Shown.{shown}
use Rattle.report_text.specs.Texts.{line}

abbrev pub list_fault_name : ListFault → List ℕ
list_fault_name Text = codes "Text"
list_fault_name (Key table key) = codes "Key"
list_fault_name (Kind row) = codes "Kind"
list_fault_name (EmptyExits row) = codes "EmptyExits"
list_fault_name (ExitName row name) = codes "ExitName"
list_fault_name (Twice row) = codes "Twice"
list_fault_name (NoClass row) = codes "NoClass"
list_fault_name (NoCallback row) = codes "NoCallback"
list_fault_name (Limit which) = codes "Limit"
list_fault_name Memory = codes "Memory"

abbrev pub list_fault_numbers : ListFault → List ℕ
list_fault_numbers (Key table key) = table ∷ []
list_fault_numbers (Kind row) = row ∷ []
list_fault_numbers (EmptyExits row) = row ∷ []
list_fault_numbers (ExitName row name) = row ∷ name ∷ []
list_fault_numbers (Twice row) = row ∷ []
list_fault_numbers (NoClass row) = row ∷ []
list_fault_numbers (NoCallback row) = row ∷ []
list_fault_numbers _ = []

-- the key that is wrong comes last
abbrev pub list_fault_key : ListFault → List ℕ
list_fault_key (Key table key) = codes " " ++ shown key
list_fault_key _ = []

abbrev pub bad_list_text : ListFault → List ℕ
bad_list_text fault =
    line (codes "bad list " ++ list_fault_name fault ++ numbers_text (list_fault_numbers fault) ++ list_fault_key fault)
