-- The operands of each format, read from the units of an instruction.
-- A letter of the format page stands for four bits, and the opcode for the low eight of the first unit.
use Rattle.std.specs.Prelude.{ℕ, ℤ, pos, negsuc, List, [], ◌∷◌, ◌+◌, ◌-◌, ◌*◌, ◌/◌, ◌%◌, ◌^◌, nat_lt, if◌then◌else◌, slice_index}
use Rattle.std.specs.Int.{cast_signed, w8, w16, w32, w64}
use Rattle.dalvik.specs.declared.ins.Args.{Args}
use Rattle.dalvik.specs.declared.ins.Args.TheVariants as args
use Rattle.dalvik_decode.specs.declared.operands.Operands.{Operands}
use Rattle.dalvik_decode.specs.declared.table.Format.{Format}
use Rattle.dalvik_decode.specs.declared.table.Format.TheVariants.{F10x, F12x, F11n, F11x, F10t, F20t, F22x, F21t, F21s, F21h, F21hWide, F21c, F23x, F22b, F22t, F22s, F22c, F30t, F32x, F31i, F31t, F31c, F35c, F3rc, F51l}

-- the low byte of the first unit is the opcode; the high byte is AA, or B and A
abbrev pub opcode_of : List ℕ → ℕ
opcode_of code = slice_index code 0 % 256

abbrev pub high_byte : List ℕ → ℕ
high_byte code = slice_index code 0 / 256

abbrev pub third_nibble : List ℕ → ℕ
third_nibble code = slice_index code 0 / 256 % 16

abbrev pub fourth_nibble : List ℕ → ℕ
fourth_nibble code = slice_index code 0 / 4096

-- two units, the low one first, and four
abbrev pub word_at : List ℕ → ℕ → ℕ
word_at code k = slice_index code k + 65536 * slice_index code (k + 1)

abbrev pub long_at : List ℕ → ℕ → ℕ
long_at code k = word_at code k + 2 ^ 32 * word_at code (k + 2)

-- four bits read as a signed number
abbrev pub signed_nibble : ℕ → ℤ
signed_nibble n = if nat_lt n 8 then pos n else negsuc (15 - n)

-- an argument register is kept where so many are named, and else 0
abbrev pub kept : ℕ → ℕ → ℕ → ℕ
kept count place register = if nat_lt place count then register else 0

-- A arguments, of C, D, E, F, G in this order, from the units `A G op`, `BBBB`, `F E D C`
unfoldable pub list_of : List ℕ → Args
list_of code =
    let count = fourth_nibble code in
    let last = slice_index code 2 in
    args.List count
    (kept count 0 (last % 16) ∷ kept count 1 (last / 16 % 16) ∷ kept count 2 (last / 256 % 16) ∷ kept count 3 (last / 4096) ∷ kept count 4 (third_nibble code) ∷ [])

-- AA registers from CCCC on, from the units `AA op`, `BBBB`, `CCCC`
abbrev pub range_of : List ℕ → Args
range_of code = args.Range (slice_index code 2) (high_byte code)

-- the operands that a format has; the others are 0
abbrev pub no_args : Args
no_args = args.Range 0 0

-- registers, or registers and an index
abbrev pub plain_operands : ℕ → ℕ → ℕ → Operands
plain_operands a b c = record { a = a; b = b; c = c; literal = pos 0; signed = pos 0; args = no_args }

-- a register and the number of a constant
abbrev pub constant_operands : ℕ → ℤ → Operands
constant_operands a literal = record { a = a; b = 0; c = 0; literal = literal; signed = pos 0; args = no_args }

-- registers, with the offset of a branch or the literal of an operation
abbrev pub signed_operands : ℕ → ℕ → ℤ → Operands
signed_operands a b signed = record { a = a; b = b; c = 0; literal = pos 0; signed = signed; args = no_args }

-- an index and arguments
abbrev pub call_operands : ℕ → Args → Operands
call_operands b arguments = record { a = 0; b = b; c = 0; literal = pos 0; signed = pos 0; args = arguments }

abbrev pub operands_of : Format → List ℕ → Operands
operands_of F10x code = plain_operands 0 0 0
operands_of F12x code = plain_operands (third_nibble code) (fourth_nibble code) 0
operands_of F11n code = constant_operands (third_nibble code) (signed_nibble (fourth_nibble code))
operands_of F11x code = plain_operands (high_byte code) 0 0
operands_of F10t code = signed_operands 0 0 (cast_signed w8 (high_byte code))
operands_of F20t code = signed_operands 0 0 (cast_signed w16 (slice_index code 1))
operands_of F22x code = plain_operands (high_byte code) (slice_index code 1) 0
operands_of F21t code = signed_operands (high_byte code) 0 (cast_signed w16 (slice_index code 1))
operands_of F21s code = constant_operands (high_byte code) (cast_signed w16 (slice_index code 1))
-- the unit stands at the top of 32 bits, and of 64 for a wide register
operands_of F21h code = constant_operands (high_byte code) (cast_signed w32 (2 ^ 16 * slice_index code 1))
operands_of F21hWide code = constant_operands (high_byte code) (cast_signed w64 (2 ^ 48 * slice_index code 1))
operands_of F21c code = plain_operands (high_byte code) (slice_index code 1) 0
operands_of F23x code = plain_operands (high_byte code) (slice_index code 1 % 256) (slice_index code 1 / 256)
operands_of F22b code = signed_operands (high_byte code) (slice_index code 1 % 256) (cast_signed w8 (slice_index code 1 / 256))
operands_of F22t code = signed_operands (third_nibble code) (fourth_nibble code) (cast_signed w16 (slice_index code 1))
operands_of F22s code = signed_operands (third_nibble code) (fourth_nibble code) (cast_signed w16 (slice_index code 1))
operands_of F22c code = plain_operands (third_nibble code) (fourth_nibble code) (slice_index code 1)
operands_of F30t code = signed_operands 0 0 (cast_signed w32 (word_at code 1))
operands_of F32x code = plain_operands (slice_index code 1) (slice_index code 2) 0
operands_of F31i code = constant_operands (high_byte code) (cast_signed w32 (word_at code 1))
operands_of F31t code = signed_operands (high_byte code) 0 (cast_signed w32 (word_at code 1))
operands_of F31c code = plain_operands (high_byte code) (word_at code 1) 0
operands_of F35c code = call_operands (slice_index code 1) (list_of code)
operands_of F3rc code = call_operands (slice_index code 1) (range_of code)
operands_of F51l code = constant_operands (high_byte code) (cast_signed w64 (long_at code 1))
