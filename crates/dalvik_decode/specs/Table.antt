-- The opcodes of the bytecode page, a line each, and how many units each format takes.
use Rattle.std.specs.Prelude.{ℕ, List, [], ◌∷◌, Option, Some, None, ◌==◌, if◌then◌else◌}
use Rattle.dalvik_decode.specs.declared.table.Format.{Format}
use Rattle.dalvik_decode.specs.declared.table.Format.TheVariants.{F10x, F12x, F11n, F11x, F10t, F20t, F22x, F21t, F21s, F21h, F21hWide, F21c, F23x, F22b, F22t, F22s, F22c, F30t, F32x, F31i, F31t, F31c, F35c, F3rc, F51l}
use Rattle.dalvik_decode.specs.declared.table.Kind.{Kind}
use Rattle.dalvik_decode.specs.declared.table.Kind.TheVariants as kind
use Rattle.dalvik_decode.specs.declared.table.Row.{Row}
use Rattle.dalvik.specs.declared.opcode.TheConstants as opcode

-- an opcode with its format and its kind
pub record Line : Type 0 where
  pub opcode : ℕ
  pub row : Row

abbrev pub line : ℕ → Format → Kind → Line
line opcode format kind = record { opcode = opcode; row = record { format = format; kind = kind } }

-- an opcode with no line here is unused
unfoldable pub table : List Line
table =
    line opcode.NOP F10x kind.Nop ∷
    line opcode.MOVE F12x kind.Move ∷
    line opcode.MOVE_FROM16 F22x kind.Move ∷
    line opcode.MOVE_16 F32x kind.Move ∷
    line opcode.MOVE_WIDE F12x kind.Move ∷
    line opcode.MOVE_WIDE_FROM16 F22x kind.Move ∷
    line opcode.MOVE_WIDE_16 F32x kind.Move ∷
    line opcode.MOVE_OBJECT F12x kind.Move ∷
    line opcode.MOVE_OBJECT_FROM16 F22x kind.Move ∷
    line opcode.MOVE_OBJECT_16 F32x kind.Move ∷
    line opcode.MOVE_RESULT F11x kind.MoveResult ∷
    line opcode.MOVE_RESULT_WIDE F11x kind.MoveResult ∷
    line opcode.MOVE_RESULT_OBJECT F11x kind.MoveResult ∷
    line opcode.MOVE_EXCEPTION F11x kind.MoveException ∷
    line opcode.RETURN_VOID F10x kind.ReturnVoid ∷
    line opcode.RETURN F11x kind.Return ∷
    line opcode.RETURN_WIDE F11x kind.Return ∷
    line opcode.RETURN_OBJECT F11x kind.Return ∷
    line opcode.CONST_4 F11n kind.Const ∷
    line opcode.CONST_16 F21s kind.Const ∷
    line opcode.CONST F31i kind.Const ∷
    line opcode.CONST_HIGH16 F21h kind.Const ∷
    line opcode.CONST_WIDE_16 F21s kind.Const ∷
    line opcode.CONST_WIDE_32 F31i kind.Const ∷
    line opcode.CONST_WIDE F51l kind.Const ∷
    line opcode.CONST_WIDE_HIGH16 F21hWide kind.Const ∷
    line opcode.CONST_STRING F21c kind.ConstString ∷
    line opcode.CONST_STRING_JUMBO F31c kind.ConstString ∷
    line opcode.CONST_CLASS F21c kind.ConstClass ∷
    line opcode.MONITOR_ENTER F11x kind.Monitor ∷
    line opcode.MONITOR_EXIT F11x kind.Monitor ∷
    line opcode.CHECK_CAST F21c kind.CheckCast ∷
    line opcode.INSTANCE_OF F22c kind.InstanceOf ∷
    line opcode.ARRAY_LENGTH F12x kind.ArrayLength ∷
    line opcode.NEW_INSTANCE F21c kind.NewInstance ∷
    line opcode.NEW_ARRAY F22c kind.NewArray ∷
    line opcode.FILLED_NEW_ARRAY F35c kind.FilledNewArray ∷
    line opcode.FILLED_NEW_ARRAY_RANGE F3rc kind.FilledNewArray ∷
    line opcode.FILL_ARRAY_DATA F31t kind.FillArrayData ∷
    line opcode.THROW F11x kind.Throw ∷
    line opcode.GOTO F10t kind.Goto ∷
    line opcode.GOTO_16 F20t kind.Goto ∷
    line opcode.GOTO_32 F30t kind.Goto ∷
    line opcode.PACKED_SWITCH F31t kind.Switch ∷
    line opcode.SPARSE_SWITCH F31t kind.Switch ∷
    line opcode.CMPL_FLOAT F23x kind.Compare ∷
    line opcode.CMPG_FLOAT F23x kind.Compare ∷
    line opcode.CMPL_DOUBLE F23x kind.Compare ∷
    line opcode.CMPG_DOUBLE F23x kind.Compare ∷
    line opcode.CMP_LONG F23x kind.Compare ∷
    line opcode.IF_EQ F22t kind.IfPair ∷
    line opcode.IF_NE F22t kind.IfPair ∷
    line opcode.IF_LT F22t kind.IfPair ∷
    line opcode.IF_GE F22t kind.IfPair ∷
    line opcode.IF_GT F22t kind.IfPair ∷
    line opcode.IF_LE F22t kind.IfPair ∷
    line opcode.IF_EQZ F21t kind.IfZero ∷
    line opcode.IF_NEZ F21t kind.IfZero ∷
    line opcode.IF_LTZ F21t kind.IfZero ∷
    line opcode.IF_GEZ F21t kind.IfZero ∷
    line opcode.IF_GTZ F21t kind.IfZero ∷
    line opcode.IF_LEZ F21t kind.IfZero ∷
    line opcode.AGET F23x kind.ArrayGet ∷
    line opcode.AGET_WIDE F23x kind.ArrayGet ∷
    line opcode.AGET_OBJECT F23x kind.ArrayGet ∷
    line opcode.AGET_BOOLEAN F23x kind.ArrayGet ∷
    line opcode.AGET_BYTE F23x kind.ArrayGet ∷
    line opcode.AGET_CHAR F23x kind.ArrayGet ∷
    line opcode.AGET_SHORT F23x kind.ArrayGet ∷
    line opcode.APUT F23x kind.ArrayPut ∷
    line opcode.APUT_WIDE F23x kind.ArrayPut ∷
    line opcode.APUT_OBJECT F23x kind.ArrayPut ∷
    line opcode.APUT_BOOLEAN F23x kind.ArrayPut ∷
    line opcode.APUT_BYTE F23x kind.ArrayPut ∷
    line opcode.APUT_CHAR F23x kind.ArrayPut ∷
    line opcode.APUT_SHORT F23x kind.ArrayPut ∷
    line opcode.IGET F22c kind.FieldGet ∷
    line opcode.IGET_WIDE F22c kind.FieldGet ∷
    line opcode.IGET_OBJECT F22c kind.FieldGet ∷
    line opcode.IGET_BOOLEAN F22c kind.FieldGet ∷
    line opcode.IGET_BYTE F22c kind.FieldGet ∷
    line opcode.IGET_CHAR F22c kind.FieldGet ∷
    line opcode.IGET_SHORT F22c kind.FieldGet ∷
    line opcode.IPUT F22c kind.FieldPut ∷
    line opcode.IPUT_WIDE F22c kind.FieldPut ∷
    line opcode.IPUT_OBJECT F22c kind.FieldPut ∷
    line opcode.IPUT_BOOLEAN F22c kind.FieldPut ∷
    line opcode.IPUT_BYTE F22c kind.FieldPut ∷
    line opcode.IPUT_CHAR F22c kind.FieldPut ∷
    line opcode.IPUT_SHORT F22c kind.FieldPut ∷
    line opcode.SGET F21c kind.StaticGet ∷
    line opcode.SGET_WIDE F21c kind.StaticGet ∷
    line opcode.SGET_OBJECT F21c kind.StaticGet ∷
    line opcode.SGET_BOOLEAN F21c kind.StaticGet ∷
    line opcode.SGET_BYTE F21c kind.StaticGet ∷
    line opcode.SGET_CHAR F21c kind.StaticGet ∷
    line opcode.SGET_SHORT F21c kind.StaticGet ∷
    line opcode.SPUT F21c kind.StaticPut ∷
    line opcode.SPUT_WIDE F21c kind.StaticPut ∷
    line opcode.SPUT_OBJECT F21c kind.StaticPut ∷
    line opcode.SPUT_BOOLEAN F21c kind.StaticPut ∷
    line opcode.SPUT_BYTE F21c kind.StaticPut ∷
    line opcode.SPUT_CHAR F21c kind.StaticPut ∷
    line opcode.SPUT_SHORT F21c kind.StaticPut ∷
    line opcode.INVOKE_VIRTUAL F35c kind.Invoke ∷
    line opcode.INVOKE_SUPER F35c kind.Invoke ∷
    line opcode.INVOKE_DIRECT F35c kind.Invoke ∷
    line opcode.INVOKE_STATIC F35c kind.Invoke ∷
    line opcode.INVOKE_INTERFACE F35c kind.Invoke ∷
    line opcode.INVOKE_VIRTUAL_RANGE F3rc kind.Invoke ∷
    line opcode.INVOKE_SUPER_RANGE F3rc kind.Invoke ∷
    line opcode.INVOKE_DIRECT_RANGE F3rc kind.Invoke ∷
    line opcode.INVOKE_STATIC_RANGE F3rc kind.Invoke ∷
    line opcode.INVOKE_INTERFACE_RANGE F3rc kind.Invoke ∷
    line opcode.NEG_INT F12x kind.Unary ∷
    line opcode.NOT_INT F12x kind.Unary ∷
    line opcode.NEG_LONG F12x kind.Unary ∷
    line opcode.NOT_LONG F12x kind.Unary ∷
    line opcode.NEG_FLOAT F12x kind.Unary ∷
    line opcode.NEG_DOUBLE F12x kind.Unary ∷
    line opcode.INT_TO_LONG F12x kind.Unary ∷
    line opcode.INT_TO_FLOAT F12x kind.Unary ∷
    line opcode.INT_TO_DOUBLE F12x kind.Unary ∷
    line opcode.LONG_TO_INT F12x kind.Unary ∷
    line opcode.LONG_TO_FLOAT F12x kind.Unary ∷
    line opcode.LONG_TO_DOUBLE F12x kind.Unary ∷
    line opcode.FLOAT_TO_INT F12x kind.Unary ∷
    line opcode.FLOAT_TO_LONG F12x kind.Unary ∷
    line opcode.FLOAT_TO_DOUBLE F12x kind.Unary ∷
    line opcode.DOUBLE_TO_INT F12x kind.Unary ∷
    line opcode.DOUBLE_TO_LONG F12x kind.Unary ∷
    line opcode.DOUBLE_TO_FLOAT F12x kind.Unary ∷
    line opcode.INT_TO_BYTE F12x kind.Unary ∷
    line opcode.INT_TO_CHAR F12x kind.Unary ∷
    line opcode.INT_TO_SHORT F12x kind.Unary ∷
    line opcode.ADD_INT F23x kind.Binary ∷
    line opcode.SUB_INT F23x kind.Binary ∷
    line opcode.MUL_INT F23x kind.Binary ∷
    line opcode.DIV_INT F23x kind.Binary ∷
    line opcode.REM_INT F23x kind.Binary ∷
    line opcode.AND_INT F23x kind.Binary ∷
    line opcode.OR_INT F23x kind.Binary ∷
    line opcode.XOR_INT F23x kind.Binary ∷
    line opcode.SHL_INT F23x kind.Binary ∷
    line opcode.SHR_INT F23x kind.Binary ∷
    line opcode.USHR_INT F23x kind.Binary ∷
    line opcode.ADD_LONG F23x kind.Binary ∷
    line opcode.SUB_LONG F23x kind.Binary ∷
    line opcode.MUL_LONG F23x kind.Binary ∷
    line opcode.DIV_LONG F23x kind.Binary ∷
    line opcode.REM_LONG F23x kind.Binary ∷
    line opcode.AND_LONG F23x kind.Binary ∷
    line opcode.OR_LONG F23x kind.Binary ∷
    line opcode.XOR_LONG F23x kind.Binary ∷
    line opcode.SHL_LONG F23x kind.Binary ∷
    line opcode.SHR_LONG F23x kind.Binary ∷
    line opcode.USHR_LONG F23x kind.Binary ∷
    line opcode.ADD_FLOAT F23x kind.Binary ∷
    line opcode.SUB_FLOAT F23x kind.Binary ∷
    line opcode.MUL_FLOAT F23x kind.Binary ∷
    line opcode.DIV_FLOAT F23x kind.Binary ∷
    line opcode.REM_FLOAT F23x kind.Binary ∷
    line opcode.ADD_DOUBLE F23x kind.Binary ∷
    line opcode.SUB_DOUBLE F23x kind.Binary ∷
    line opcode.MUL_DOUBLE F23x kind.Binary ∷
    line opcode.DIV_DOUBLE F23x kind.Binary ∷
    line opcode.REM_DOUBLE F23x kind.Binary ∷
    line opcode.ADD_INT_2ADDR F12x kind.BinaryOnto ∷
    line opcode.SUB_INT_2ADDR F12x kind.BinaryOnto ∷
    line opcode.MUL_INT_2ADDR F12x kind.BinaryOnto ∷
    line opcode.DIV_INT_2ADDR F12x kind.BinaryOnto ∷
    line opcode.REM_INT_2ADDR F12x kind.BinaryOnto ∷
    line opcode.AND_INT_2ADDR F12x kind.BinaryOnto ∷
    line opcode.OR_INT_2ADDR F12x kind.BinaryOnto ∷
    line opcode.XOR_INT_2ADDR F12x kind.BinaryOnto ∷
    line opcode.SHL_INT_2ADDR F12x kind.BinaryOnto ∷
    line opcode.SHR_INT_2ADDR F12x kind.BinaryOnto ∷
    line opcode.USHR_INT_2ADDR F12x kind.BinaryOnto ∷
    line opcode.ADD_LONG_2ADDR F12x kind.BinaryOnto ∷
    line opcode.SUB_LONG_2ADDR F12x kind.BinaryOnto ∷
    line opcode.MUL_LONG_2ADDR F12x kind.BinaryOnto ∷
    line opcode.DIV_LONG_2ADDR F12x kind.BinaryOnto ∷
    line opcode.REM_LONG_2ADDR F12x kind.BinaryOnto ∷
    line opcode.AND_LONG_2ADDR F12x kind.BinaryOnto ∷
    line opcode.OR_LONG_2ADDR F12x kind.BinaryOnto ∷
    line opcode.XOR_LONG_2ADDR F12x kind.BinaryOnto ∷
    line opcode.SHL_LONG_2ADDR F12x kind.BinaryOnto ∷
    line opcode.SHR_LONG_2ADDR F12x kind.BinaryOnto ∷
    line opcode.USHR_LONG_2ADDR F12x kind.BinaryOnto ∷
    line opcode.ADD_FLOAT_2ADDR F12x kind.BinaryOnto ∷
    line opcode.SUB_FLOAT_2ADDR F12x kind.BinaryOnto ∷
    line opcode.MUL_FLOAT_2ADDR F12x kind.BinaryOnto ∷
    line opcode.DIV_FLOAT_2ADDR F12x kind.BinaryOnto ∷
    line opcode.REM_FLOAT_2ADDR F12x kind.BinaryOnto ∷
    line opcode.ADD_DOUBLE_2ADDR F12x kind.BinaryOnto ∷
    line opcode.SUB_DOUBLE_2ADDR F12x kind.BinaryOnto ∷
    line opcode.MUL_DOUBLE_2ADDR F12x kind.BinaryOnto ∷
    line opcode.DIV_DOUBLE_2ADDR F12x kind.BinaryOnto ∷
    line opcode.REM_DOUBLE_2ADDR F12x kind.BinaryOnto ∷
    line opcode.ADD_INT_LIT16 F22s kind.BinaryLiteral ∷
    line opcode.RSUB_INT F22s kind.BinaryLiteral ∷
    line opcode.MUL_INT_LIT16 F22s kind.BinaryLiteral ∷
    line opcode.DIV_INT_LIT16 F22s kind.BinaryLiteral ∷
    line opcode.REM_INT_LIT16 F22s kind.BinaryLiteral ∷
    line opcode.AND_INT_LIT16 F22s kind.BinaryLiteral ∷
    line opcode.OR_INT_LIT16 F22s kind.BinaryLiteral ∷
    line opcode.XOR_INT_LIT16 F22s kind.BinaryLiteral ∷
    line opcode.ADD_INT_LIT8 F22b kind.BinaryLiteral ∷
    line opcode.RSUB_INT_LIT8 F22b kind.BinaryLiteral ∷
    line opcode.MUL_INT_LIT8 F22b kind.BinaryLiteral ∷
    line opcode.DIV_INT_LIT8 F22b kind.BinaryLiteral ∷
    line opcode.REM_INT_LIT8 F22b kind.BinaryLiteral ∷
    line opcode.AND_INT_LIT8 F22b kind.BinaryLiteral ∷
    line opcode.OR_INT_LIT8 F22b kind.BinaryLiteral ∷
    line opcode.XOR_INT_LIT8 F22b kind.BinaryLiteral ∷
    line opcode.SHL_INT_LIT8 F22b kind.BinaryLiteral ∷
    line opcode.SHR_INT_LIT8 F22b kind.BinaryLiteral ∷
    line opcode.USHR_INT_LIT8 F22b kind.BinaryLiteral ∷
    []

-- the row in the first line of an opcode
abbrev pub row_in : List Line → ℕ → Option Row
row_in [] op = None
row_in (first ∷ more) op = if first.opcode == op then Some first.row else row_in more op

unfoldable pub row_of : ℕ → Option Row
unfolding table
row_of op = row_in table op

-- the units of an instruction, its first one counted
abbrev pub units_of : Format → ℕ
units_of F10x = 1
units_of F12x = 1
units_of F11n = 1
units_of F11x = 1
units_of F10t = 1
units_of F20t = 2
units_of F22x = 2
units_of F21t = 2
units_of F21s = 2
units_of F21h = 2
units_of F21hWide = 2
units_of F21c = 2
units_of F23x = 2
units_of F22b = 2
units_of F22t = 2
units_of F22s = 2
units_of F22c = 2
units_of F30t = 3
units_of F32x = 3
units_of F31i = 3
units_of F31t = 3
units_of F31c = 3
units_of F35c = 3
units_of F3rc = 3
units_of F51l = 5
