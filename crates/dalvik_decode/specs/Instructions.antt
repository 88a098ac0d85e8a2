-- The instruction of each kind, from its opcode and its operands.
use Rattle.std.specs.Prelude.{ℕ}
use Rattle.dalvik.specs.declared.ins.Ins.{Ins}
use Rattle.dalvik.specs.declared.ins.Ins.TheVariants as ins
use Rattle.dalvik_decode.specs.declared.operands.Operands.{Operands}
use Rattle.dalvik_decode.specs.declared.table.Kind.{Kind}
use Rattle.dalvik_decode.specs.declared.table.Kind.TheVariants.{Nop, Move, MoveResult, MoveException, ReturnVoid, Return, Const, ConstString, ConstClass, Monitor, CheckCast, InstanceOf, ArrayLength, NewInstance, NewArray, FilledNewArray, FillArrayData, Throw, Goto, Switch, Compare, IfPair, IfZero, ArrayGet, ArrayPut, FieldGet, FieldPut, StaticGet, StaticPut, Invoke, Unary, Binary, BinaryOnto, BinaryLiteral}

abbrev pub instruction_of : Kind → ℕ → Operands → Ins
instruction_of Nop op o = ins.Nop
instruction_of Move op o = ins.Move op o.a o.b
instruction_of MoveResult op o = ins.MoveResult op o.a
instruction_of MoveException op o = ins.MoveException o.a
instruction_of ReturnVoid op o = ins.ReturnVoid
instruction_of Return op o = ins.Return op o.a
instruction_of Const op o = ins.Const op o.a o.literal
instruction_of ConstString op o = ins.ConstString op o.a o.b
instruction_of ConstClass op o = ins.ConstClass o.a o.b
instruction_of Monitor op o = ins.Monitor op o.a
instruction_of CheckCast op o = ins.CheckCast o.a o.b
instruction_of InstanceOf op o = ins.InstanceOf o.a o.b o.c
instruction_of ArrayLength op o = ins.ArrayLength o.a o.b
instruction_of NewInstance op o = ins.NewInstance o.a o.b
instruction_of NewArray op o = ins.NewArray o.a o.b o.c
instruction_of FilledNewArray op o = ins.FilledNewArray op o.b o.args
instruction_of FillArrayData op o = ins.FillArrayData o.a o.signed
instruction_of Throw op o = ins.Throw o.a
instruction_of Goto op o = ins.Goto op o.signed
instruction_of Switch op o = ins.Switch op o.a o.signed
instruction_of Compare op o = ins.Compare op o.a o.b o.c
instruction_of IfPair op o = ins.IfPair op o.a o.b o.signed
instruction_of IfZero op o = ins.IfZero op o.a o.signed
instruction_of ArrayGet op o = ins.ArrayGet op o.a o.b o.c
instruction_of ArrayPut op o = ins.ArrayPut op o.a o.b o.c
instruction_of FieldGet op o = ins.FieldGet op o.a o.b o.c
instruction_of FieldPut op o = ins.FieldPut op o.a o.b o.c
instruction_of StaticGet op o = ins.StaticGet op o.a o.b
instruction_of StaticPut op o = ins.StaticPut op o.a o.b
instruction_of Invoke op o = ins.Invoke op o.b o.args
instruction_of Unary op o = ins.Unary op o.a o.b
instruction_of Binary op o = ins.Binary op o.a o.b o.c
instruction_of BinaryOnto op o = ins.Binary op o.a o.a o.b
instruction_of BinaryLiteral op o = ins.BinaryLiteral op o.a o.b o.signed
