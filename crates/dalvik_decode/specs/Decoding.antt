-- The instruction at a pc.
use Rattle.std.specs.Prelude.{ℕ, List, ◌+◌, nat_lt, if◌then◌else◌, length, drop, Bool, false, Option, Some, None, Result, Ok, Err}
use Rattle.dalvik.specs.declared.ins.Ins.{Ins}
use Rattle.dalvik_decode.specs.declared.faults.CodeFault.{CodeFault}
use Rattle.dalvik_decode.specs.declared.faults.CodeFault.TheVariants.{BadOpcode, Truncated, ArgCount}
use Rattle.dalvik_decode.specs.declared.table.Format.{Format}
use Rattle.dalvik_decode.specs.declared.table.Format.TheVariants.{F35c}
use Rattle.dalvik_decode.specs.declared.table.Row.{Row}
use Rattle.dalvik_decode.specs.Table.{row_of, units_of}
use Rattle.dalvik_decode.specs.Operands.{opcode_of, fourth_nibble, operands_of}
use Rattle.dalvik_decode.specs.Instructions.{instruction_of}

-- format 35c has room for five arguments
abbrev pub has_too_many : Format → List ℕ → Bool
has_too_many F35c code = nat_lt 5 (fourth_nibble code)
has_too_many _ code = false

-- the instruction that begins these units, and the pc after it
abbrev pub decoded : Option Row → List ℕ → ℕ → Result (Ins × ℕ) CodeFault
decoded None code pc = Err (BadOpcode pc (opcode_of code))
decoded (Some row) code pc =
    if nat_lt (length code) (units_of row.format) then Err (Truncated pc)
    else (if has_too_many row.format code then Err (ArgCount pc)
    else Ok (instruction_of row.kind (opcode_of code) (operands_of row.format code), pc + units_of row.format))

unfoldable pub decoded_at : List ℕ → ℕ → Result (Ins × ℕ) CodeFault
decoded_at units pc = decoded (row_of (opcode_of (drop pc units))) (drop pc units) pc
