-- The registers that an instruction names, in the order of the bytecode page.
use Rattle.std.specs.Prelude.{ℕ, List, [], ◌∷◌, ◌++◌, ◌+◌, ◌==◌, nat_le, ◌&&◌, ◌||◌, Bool, true, false, take}
use Rattle.std.specs.List.{range_with_len}
use Rattle.dalvik.specs.declared.ins.Ins.{Ins}
use Rattle.dalvik.specs.declared.ins.Ins.TheVariants.{Nop, Move, MoveResult, MoveException, ReturnVoid, Return, Const, ConstString, ConstClass, Monitor, CheckCast, InstanceOf, ArrayLength, NewInstance, NewArray, FilledNewArray, FillArrayData, Throw, Goto, Switch, Compare, IfPair, IfZero, ArrayGet, ArrayPut, FieldGet, FieldPut, StaticGet, StaticPut, Invoke, Unary, Binary, BinaryLiteral}
use Rattle.dalvik.specs.declared.ins.Args.{Args}
use Rattle.dalvik.specs.declared.ins.Args.TheVariants as args

-- an opcode is one of a run
abbrev pub is_between : ℕ → ℕ → ℕ → Bool
is_between first last op = nat_le first op && nat_le op last

-- move-wide and its longer forms
abbrev pub is_wide_move : ℕ → Bool
is_wide_move op = is_between 0x04 0x06 op

-- const-wide/16, /32, const-wide and const-wide/high16
abbrev pub is_wide_const : ℕ → Bool
is_wide_const op = is_between 0x16 0x19 op

-- neg-long, not-long, neg-double; int-to-long, int-to-double; long-to-double; float-to-long, float-to-double; double-to-long
abbrev pub is_wide_unary : ℕ → Bool
is_wide_unary op =
    is_between 0x7d 0x7e op || (is_between 0x80 0x81 op || (op == 0x83 || (op == 0x86 || (is_between 0x88 0x89 op || op == 0x8b))))

-- add-long to ushr-long, add-double to rem-double, and the same with /2addr
abbrev pub is_wide_binary : ℕ → Bool
is_wide_binary op =
    is_between 0x9b 0xa5 op || (is_between 0xab 0xaf op || (is_between 0xbb 0xc5 op || is_between 0xcb 0xcf op))

-- a register, or it and the second of its pair
abbrev pub pair_if : Bool → ℕ → List ℕ
pair_if true r = r ∷ (r + 1) ∷ []
pair_if false r = r ∷ []

abbrev pub args_of : Args → List ℕ
args_of (args.List count registers) = take count registers
args_of (args.Range first count) = range_with_len first count

-- a pair that is written or moved counts with its second register
unfoldable pub registers_of : Ins → List ℕ
registers_of Nop = []
registers_of (Move op to from) = pair_if (is_wide_move op) to ++ pair_if (is_wide_move op) from
registers_of (MoveResult op to) = pair_if (op == 0x0b) to
registers_of (MoveException to) = to ∷ []
registers_of ReturnVoid = []
registers_of (Return op from) = from ∷ []
registers_of (Const op to value) = pair_if (is_wide_const op) to
registers_of (ConstString op to string) = to ∷ []
registers_of (ConstClass to kind) = to ∷ []
registers_of (Monitor op object) = object ∷ []
registers_of (CheckCast object kind) = object ∷ []
registers_of (InstanceOf to object kind) = to ∷ object ∷ []
registers_of (ArrayLength to array) = to ∷ array ∷ []
registers_of (NewInstance to kind) = to ∷ []
registers_of (NewArray to size kind) = to ∷ size ∷ []
registers_of (FilledNewArray op kind arguments) = args_of arguments
registers_of (FillArrayData array offset) = array ∷ []
registers_of (Throw object) = object ∷ []
registers_of (Goto op offset) = []
registers_of (Switch op value offset) = value ∷ []
registers_of (Compare op to left right) = to ∷ left ∷ right ∷ []
registers_of (IfPair op left right offset) = left ∷ right ∷ []
registers_of (IfZero op value offset) = value ∷ []
registers_of (ArrayGet op to array index) = pair_if (op == 0x45) to ++ array ∷ index ∷ []
registers_of (ArrayPut op value array index) = value ∷ array ∷ index ∷ []
registers_of (FieldGet op to object field) = pair_if (op == 0x53) to ++ object ∷ []
registers_of (FieldPut op value object field) = value ∷ object ∷ []
registers_of (StaticGet op to field) = pair_if (op == 0x61) to
registers_of (StaticPut op value field) = value ∷ []
registers_of (Invoke op method arguments) = args_of arguments
registers_of (Unary op to from) = pair_if (is_wide_unary op) to ++ from ∷ []
registers_of (Binary op to left right) = pair_if (is_wide_binary op) to ++ left ∷ right ∷ []
registers_of (BinaryLiteral op to from value) = to ∷ from ∷ []
