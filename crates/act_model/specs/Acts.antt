-- What each instruction does, as the rules and the machine tell instructions apart: thirteen kinds.
use Rattle.std.specs.Prelude.{ℕ, zero, suc, ℤ, pos, negsuc, Bool, true, false, ◌||◌, ◌==◌, if◌then◌else◌, List, Option, Some, None, bytes_eq, codes}
use Rattle.dalvik.specs.declared.ins.Ins.{Ins}
use Rattle.dalvik.specs.declared.ins.Ins.TheVariants as ins
use Rattle.dalvik.specs.declared.opcode.TheConstants.{MOVE_RESULT_WIDE, RETURN_WIDE, MONITOR_ENTER, IF_EQZ, IF_NEZ, AGET_WIDE, AGET_OBJECT, IGET_WIDE, IGET_OBJECT, SGET_WIDE, SGET_OBJECT, DIV_INT, REM_INT, DIV_LONG, REM_LONG, DIV_INT_2ADDR, REM_INT_2ADDR, DIV_LONG_2ADDR, REM_LONG_2ADDR, DIV_INT_LIT16, REM_INT_LIT16, DIV_INT_LIT8, REM_INT_LIT8}
use Rattle.dalvik.specs.Descriptors.{is_reference}
use Rattle.dalvik.specs.Registers.{is_wide_move, is_wide_const, is_wide_unary, is_wide_binary}
use Rattle.app_model.specs.declared.rows.Named.{Named}
use Rattle.app_model.specs.declared.lock_use.LockUse.{LockUse}
use Rattle.app_model.specs.declared.lock_use.LockUse.TheVariants.{Plain, Make, Acquire, Release, IsHeld, Mode, Wrong}
use Rattle.app_model.specs.Parts.{AppParts}
use Rattle.app_model.specs.Targets.{call_by}
use Rattle.app_model.specs.Words.{ins_at, named_at}
use Rattle.app_model.specs.Names.{result_text}
use Rattle.app_model.specs.LockUse.{lock_use_at}
use Rattle.app_model.specs.Slots.{slot_at}
use Rattle.act_model.specs.declared.act.Act.{Act}
use Rattle.act_model.specs.declared.act.Act.TheVariants.{Go, Test, Copy, TakeResult, Write, Fill, ReadSlot, WriteSlot, Give, Check, Throw, Return, Call}
use Rattle.act_model.specs.declared.act.Gives.{Gives}
use Rattle.act_model.specs.declared.act.Gives.TheVariants.{Nothing, Number, Object}
use Rattle.act_model.specs.declared.act.LockOp.{LockOp}
use Rattle.act_model.specs.declared.act.LockOp.TheVariants as ops
use Rattle.act_model.specs.declared.act.Returned.TheVariants as returned
use Rattle.act_model.specs.declared.act.Throws.{Throws}
use Rattle.act_model.specs.declared.act.Throws.TheVariants.{Never, ByChoice, WhereZero}
use Rattle.act_model.specs.declared.act.Written.{Written}
use Rattle.act_model.specs.declared.act.Written.TheVariants as written

-- ---- what is written
abbrev pub is_zero : ℤ → Bool
is_zero (pos zero) = true
is_zero (pos (suc n)) = false
is_zero (negsuc n) = false

-- a number, or a pair of registers that holds one
abbrev pub number_of : (wide : Bool) → Written
number_of true = written.Pair
number_of false = written.Number

abbrev pub constant_of : (op : ℕ) → ℤ → Written
constant_of op value = if is_wide_const op then written.Pair else (if is_zero value then written.Zero else written.Nonzero)

-- a read of an array or a field: of an object, of a pair, or of a number
abbrev pub read_of : (op : ℕ) → Written
read_of op =
    if op == AGET_OBJECT || op == IGET_OBJECT || op == SGET_OBJECT then written.Reference
    else number_of (op == AGET_WIDE || op == IGET_WIDE || op == SGET_WIDE)

-- ---- divisions and remainders of whole numbers throw by choice; by a literal only where it is 0
abbrev pub if_divides : Bool → Throws
if_divides true = ByChoice
if_divides false = Never

abbrev pub is_division : (op : ℕ) → Bool
is_division op =
    op == DIV_INT || op == REM_INT || op == DIV_LONG || op == REM_LONG
    || op == DIV_INT_2ADDR || op == REM_INT_2ADDR || op == DIV_LONG_2ADDR || op == REM_LONG_2ADDR

abbrev pub is_literal_division : (op : ℕ) → Bool
is_literal_division op = op == DIV_INT_LIT16 || op == REM_INT_LIT16 || op == DIV_INT_LIT8 || op == REM_INT_LIT8

abbrev pub literal_throws : (op : ℕ) → ℤ → Throws
literal_throws op value = if is_zero value then if_divides (is_literal_division op) else Never

-- ---- fields: the lock field that is named, or another one
abbrev pub read_act : (to : ℕ) → Option ℕ → (op : ℕ) → Throws → Act
read_act to None op throws = Write to (read_of op) throws
read_act to (Some l) op throws = ReadSlot to (record { 0 = l }) throws

abbrev pub write_act : (from : ℕ) → Option ℕ → Throws → Act
write_act from None throws = Give from throws
write_act from (Some l) throws = WriteSlot from (record { 0 = l }) throws

-- ---- calls
-- what a call gives, by the descriptor of the result
abbrev pub gives_of : List ℕ → Gives
gives_of text = if bytes_eq text (codes "V") then Nothing else (if is_reference text then Object else Number)

abbrev pub call_gives : AppParts → Option Named → Gives
call_gives app None = Nothing
call_gives app (Some named) = gives_of (result_text app named.proto.0)

-- what a call does as a lock call, by what it is to the wake locks; None where it is no lock call
abbrev pub op_of : LockUse → Option LockOp
op_of Acquire = Some ops.Acquire
op_of Release = Some ops.Release
op_of IsHeld = Some ops.IsHeld
op_of Mode = Some ops.Mode
op_of Plain = None
op_of Make = None
op_of Wrong = None

-- the zero branch of a test is taken to the target by if-eqz, and to the next instruction by if-nez
abbrev pub test_of : (op value : ℕ) → Act
test_of op value = if op == IF_EQZ then Test value 1 else (if op == IF_NEZ then Test value 0 else Go)

-- ---- every instruction
abbrev pub act_of : AppParts → (m i : ℕ) → Ins → Act
act_of app m i ins.Nop = Go
act_of app m i (ins.Move op to from) = Copy to from (is_wide_move op)
act_of app m i (ins.MoveResult op to) = if op == MOVE_RESULT_WIDE then Write to written.Pair Never else TakeResult to
act_of app m i (ins.MoveException to) = Write to written.FreeObject Never
act_of app m i ins.ReturnVoid = Return returned.Nothing
act_of app m i (ins.Return op from) = Return (if op == RETURN_WIDE then returned.Wide else returned.Register from)
act_of app m i (ins.Const op to value) = Write to (constant_of op value) Never
act_of app m i (ins.ConstString op to string) = Write to written.Text Never
act_of app m i (ins.ConstClass to kind) = Write to written.ClassObject Never
act_of app m i (ins.Monitor op object) = if op == MONITOR_ENTER then Check (WhereZero object) else Go
act_of app m i (ins.CheckCast object kind) = Check ByChoice
act_of app m i (ins.InstanceOf to object kind) = Write to written.Number Never
act_of app m i (ins.ArrayLength to array) = Write to written.Number ByChoice
act_of app m i (ins.NewInstance to kind) = Write to (written.Typed (record { 0 = kind })) Never
act_of app m i (ins.NewArray to size kind) = Write to (written.Typed (record { 0 = kind })) ByChoice
act_of app m i (ins.FilledNewArray op kind arguments) = Fill arguments (record { 0 = kind })
act_of app m i (ins.FillArrayData array offset) = Check ByChoice
act_of app m i (ins.Throw object) = Throw object
act_of app m i (ins.Goto op offset) = Go
act_of app m i (ins.Switch op value offset) = Go
act_of app m i (ins.Compare op to left right) = Write to written.Number Never
act_of app m i (ins.IfPair op left right offset) = Go
act_of app m i (ins.IfZero op value offset) = test_of op value
act_of app m i (ins.ArrayGet op to array index) = Write to (read_of op) ByChoice
act_of app m i (ins.ArrayPut op value array index) = Give value ByChoice
act_of app m i (ins.FieldGet op to object field) = read_act to (slot_at app m i) op (WhereZero object)
act_of app m i (ins.FieldPut op value object field) = write_act value (slot_at app m i) (WhereZero object)
act_of app m i (ins.StaticGet op to field) = read_act to (slot_at app m i) op Never
act_of app m i (ins.StaticPut op value field) = write_act value (slot_at app m i) Never
act_of app m i (ins.Invoke op method arguments) =
    Call (call_by op) (lock_use_at app m i) arguments (call_gives app (named_at app m i))
act_of app m i (ins.Unary op to from) = Write to (number_of (is_wide_unary op)) Never
act_of app m i (ins.Binary op to left right) = Write to (number_of (is_wide_binary op)) (if_divides (is_division op))
act_of app m i (ins.BinaryLiteral op to from value) = Write to written.Number (literal_throws op value)

abbrev pub act_by : AppParts → (m i : ℕ) → Option Ins → Option Act
act_by app m i None = None
act_by app m i (Some own) = Some (act_of app m i own)

-- what instruction i of method m does
unfoldable pub act_at : AppParts → (m i : ℕ) → Option Act
act_at app m i = act_by app m i (ins_at app m i)
