-- The refusal of a method's code.
use Rattle.std.specs.Prelude.{ℕ, List, [], ◌∷◌, ◌++◌, codes, decimal}
use Rattle.dalvik_decode.specs.declared.faults.CodeFault.{CodeFault}
use Rattle.dalvik_decode.specs.declared.faults.CodeFault.TheVariants.{BadOpcode, Truncated, BadPayload, Register, Operand, ArgCount, Target, FallsOff, TryTarget, PayloadKind, InsSize, Memory}
use Rattle.report_text.specs.Numbers.{numbers_text}
use Rattle.report_text.specs.Texts.{line}

abbrev pub code_fault_name : CodeFault → List ℕ
code_fault_name (BadOpcode pc opcode) = codes "BadOpcode"
code_fault_name (Truncated pc) = codes "Truncated"
code_fault_name (BadPayload pc) = codes "BadPayload"
code_fault_name (Register pc register) = codes "Register"
code_fault_name (Operand pc index) = codes "Operand"
code_fault_name (ArgCount pc) = codes "ArgCount"
code_fault_name (Target pc target) = codes "Target"
code_fault_name (FallsOff pc) = codes "FallsOff"
code_fault_name (TryTarget pc) = codes "TryTarget"
code_fault_name (PayloadKind pc) = codes "PayloadKind"
code_fault_name InsSize = codes "InsSize"
code_fault_name Memory = codes "Memory"

abbrev pub code_fault_numbers : CodeFault → List ℕ
code_fault_numbers (BadOpcode pc opcode) = pc ∷ opcode ∷ []
code_fault_numbers (Truncated pc) = pc ∷ []
code_fault_numbers (BadPayload pc) = pc ∷ []
code_fault_numbers (Register pc register) = pc ∷ register ∷ []
code_fault_numbers (Operand pc index) = pc ∷ index ∷ []
code_fault_numbers (ArgCount pc) = pc ∷ []
code_fault_numbers (Target pc target) = pc ∷ target ∷ []
code_fault_numbers (FallsOff pc) = pc ∷ []
code_fault_numbers (TryTarget pc) = pc ∷ []
code_fault_numbers (PayloadKind pc) = pc ∷ []
code_fault_numbers _ = []

abbrev pub bad_code_text : (file method : ℕ) → CodeFault → List ℕ
bad_code_text file method fault =
    line (codes "bad dex " ++ decimal file ++ codes " Code " ++ decimal method ++ codes " " ++ code_fault_name fault
    ++ numbers_text (code_fault_numbers fault))
