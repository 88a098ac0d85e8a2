-- What a call names: its registers, in order, and how many words its arguments take.
use Rattle.std.specs.Prelude.{ℕ, ◌+◌, ◌==◌, ◌||◌, Bool, slice_index}
use Rattle.dalvik.specs.declared.ins.Args.{Args}
use Rattle.dalvik.specs.declared.ins.Args.TheVariants as args
use Rattle.dalvik.specs.declared.opcode.TheConstants.{INVOKE_STATIC, INVOKE_STATIC_RANGE, INVOKE_VIRTUAL, INVOKE_VIRTUAL_RANGE}

abbrev pub args_len : Args → ℕ
args_len (args.List count registers) = count
args_len (args.Range first count) = count

-- the register of argument number k
abbrev pub arg_at : Args → ℕ → ℕ
arg_at (args.List count registers) k = slice_index registers k
arg_at (args.Range first count) k = first + k

-- the register of the receiver, where there is one
abbrev pub receiver_of : Args → ℕ
receiver_of (args.List count registers) = slice_index registers 0
receiver_of (args.Range first count) = first

-- the register of the argument behind it
abbrev pub argument_of : Args → ℕ
argument_of arguments = arg_at arguments 1

-- a call without a receiver
abbrev pub is_static_call : ℕ → Bool
is_static_call op = op == INVOKE_STATIC || op == INVOKE_STATIC_RANGE

-- the form of every lock call
abbrev pub is_virtual_call : ℕ → Bool
is_virtual_call op = op == INVOKE_VIRTUAL || op == INVOKE_VIRTUAL_RANGE
