-- What each of the 218 opcodes does, by computation. No contract speaks of these: they show that every opcode of the page has
-- its act, group by group.
use Rattle.std.proofs.Common.{◌≡◌, ℕ, List, [], ◌∷◌, ◌++◌, length, map, replicate, true, false, None, codes, refl}
use Rattle.std.specs.Prelude.{ℤ, pos, negsuc}
use Rattle.std.specs.List.{range_with_len}
use Rattle.dalvik.specs.declared.body.Place.{Place}
use Rattle.dalvik.specs.declared.ins.Args.{Args}
use Rattle.dalvik.specs.declared.ins.Args.TheVariants as args
use Rattle.dalvik.specs.declared.ins.Ins.{Ins}
use Rattle.dalvik.specs.declared.ins.Ins.TheVariants as ins
use Rattle.app_model.specs.declared.lock_use.LockUse.TheVariants.{Plain}
use Rattle.app_model.specs.declared.rows.Operand.{Operand}
use Rattle.app_model.specs.declared.rows.Operand.TheVariants as operand
use Rattle.app_model.specs.Hierarchy.{class_of_type, line_of, lock_in, lock_of, superclass_at}
use Rattle.app_model.specs.LockUse.{lock_use_at}
use Rattle.app_model.specs.Names.{name_text, type_text}
use Rattle.app_model.specs.Parts.{AppParts}
use Rattle.app_model.specs.Slots.{slot_at}
use Rattle.app_model.specs.Words.{operand_at, place_at, places_of}
use Rattle.act_model.specs.declared.act.Act.{Act}
use Rattle.act_model.specs.declared.act.Act.TheVariants.{Go, Test, Copy, TakeResult, Write, Fill, ReadSlot, WriteSlot, Give, Check, Throw, Return, Call}
use Rattle.app_model.specs.declared.calls.By.TheVariants.{Virtual, Super, Direct, Static}
use Rattle.act_model.specs.declared.act.Gives.TheVariants.{Nothing}
use Rattle.act_model.specs.declared.act.Returned.TheVariants as returned
use Rattle.act_model.specs.declared.act.Throws.TheVariants.{Never, ByChoice, WhereZero}
use Rattle.act_model.specs.declared.act.Written.TheVariants as written
use Rattle.act_model.specs.Acts.{act_of}

-- an application with nothing in it: no field is a lock field, and no call is one of a wake lock
abbrev nothing : AppParts
nothing = record { types = []; names = []; protos = []; classes = []; methods = []; fields = []; locks = []; code = []; operands = [] }

-- so many opcodes from one on, as instructions
abbrev each : (first count : ℕ) → (ℕ → Ins) → List Ins
each first count make = map make (range_with_len first count)

abbrev acts_of : List Ins → List Act
acts_of code = map (act_of nothing 0 0) code

abbrev typed : ℕ → Act
typed to = Write to (written.Typed (record { 0 = 9 })) Never

abbrev listed : Args
listed = args.List 1 (1 ∷ 0 ∷ 0 ∷ 0 ∷ 0 ∷ [])

-- ---- nop to return-object: 18
moves : List Ins
moves =
    ins.Nop ∷ each 0x01 9 (λ op. ins.Move op 1 2) ++ each 0x0a 3 (λ op. ins.MoveResult op 1) ++ ins.MoveException 1 ∷ ins.ReturnVoid ∷ each 0x0f 3 (λ op. ins.Return op 1)

moves_act : acts_of moves ≡
    Go ∷ replicate 3 (Copy 1 2 false) ++ replicate 3 (Copy 1 2 true) ++ replicate 3 (Copy 1 2 false)
    ++ TakeResult 1 ∷ Write 1 written.Pair Never ∷ TakeResult 1 ∷ Write 1 written.FreeObject Never
    ∷ Return returned.Nothing ∷ Return (returned.Register 1) ∷ Return returned.Wide ∷ Return (returned.Register 1) ∷ []
unfolding moves
moves_act = refl

-- ---- const/4 to const-class: 11; numbers of 0 and others
constants : (value : ℤ) → List Ins
constants value = each 0x12 8 (λ op. ins.Const op 1 value) ++ each 0x1a 2 (λ op. ins.ConstString op 1 3) ++ ins.ConstClass 1 9 ∷ []

constants_act : acts_of (constants (pos 0)) ++ acts_of (constants (negsuc 4)) ≡
    replicate 4 (Write 1 written.Zero Never) ++ replicate 4 (Write 1 written.Pair Never) ++ replicate 2 (Write 1 written.Text Never) ++ Write 1 written.ClassObject Never
    ∷ replicate 4 (Write 1 written.Nonzero Never) ++ replicate 4 (Write 1 written.Pair Never) ++ replicate 2 (Write 1 written.Text Never) ++ Write 1 written.ClassObject Never ∷ []
unfolding constants
constants_act = refl

-- ---- monitor-enter to throw: 11
objects : List Ins
objects =
    each 0x1d 2 (λ op. ins.Monitor op 1) ++ ins.CheckCast 1 9 ∷ ins.InstanceOf 1 2 9 ∷ ins.ArrayLength 1 2 ∷ ins.NewInstance 1 9 ∷ ins.NewArray 1 2 9
    ∷ each 0x24 2 (λ op. ins.FilledNewArray op 9 listed) ++ ins.FillArrayData 1 (pos 4) ∷ ins.Throw 1 ∷ []

objects_act : acts_of objects ≡
    Check (WhereZero 1) ∷ Go ∷ Check ByChoice ∷ Write 1 written.Number Never ∷ Write 1 written.Number ByChoice ∷ typed 1
    ∷ Write 1 (written.Typed (record { 0 = 9 })) ByChoice ∷ replicate 2 (Fill listed (record { 0 = 9 })) ++ Check ByChoice ∷ Throw 1 ∷ []
unfolding objects
objects_act = refl

-- ---- goto to if-lez: 22
jumps : List Ins
jumps =
    each 0x28 3 (λ op. ins.Goto op (pos 4)) ++ each 0x2b 2 (λ op. ins.Switch op 1 (pos 4)) ++ each 0x2d 5 (λ op. ins.Compare op 1 2 3)
    ++ each 0x32 6 (λ op. ins.IfPair op 1 2 (pos 4)) ++ each 0x38 6 (λ op. ins.IfZero op 1 (pos 4))

jumps_act : acts_of jumps ≡
    replicate 5 Go ++ replicate 5 (Write 1 written.Number Never) ++ replicate 6 Go ++ Test 1 1 ∷ Test 1 0 ∷ replicate 4 Go
unfolding jumps
jumps_act = refl

-- ---- aget to sput-short: 42; of fields that are no lock fields
accesses : List Ins
accesses =
    each 0x44 7 (λ op. ins.ArrayGet op 1 2 3) ++ each 0x4b 7 (λ op. ins.ArrayPut op 1 2 3) ++ each 0x52 7 (λ op. ins.FieldGet op 1 2 3)
    ++ each 0x59 7 (λ op. ins.FieldPut op 1 2 3) ++ each 0x60 7 (λ op. ins.StaticGet op 1 3) ++ each 0x67 7 (λ op. ins.StaticPut op 1 3)

accesses_act : acts_of accesses ≡
    Write 1 written.Number ByChoice ∷ Write 1 written.Pair ByChoice ∷ Write 1 written.Reference ByChoice ∷ replicate 4 (Write 1 written.Number ByChoice)
    ++ replicate 7 (Give 1 ByChoice)
    ++ Write 1 written.Number (WhereZero 2) ∷ Write 1 written.Pair (WhereZero 2) ∷ Write 1 written.Reference (WhereZero 2) ∷ replicate 4 (Write 1 written.Number (WhereZero 2))
    ++ replicate 7 (Give 1 (WhereZero 2))
    ++ Write 1 written.Number Never ∷ Write 1 written.Pair Never ∷ Write 1 written.Reference Never ∷ replicate 4 (Write 1 written.Number Never)
    ++ replicate 7 (Give 1 Never)
unfolding accesses slot_at place_at places_of
accesses_act = refl

-- ---- the invokes: 10
calls : List Ins
calls = each 0x6e 5 (λ op. ins.Invoke op 3 listed) ++ each 0x74 5 (λ op. ins.Invoke op 3 listed)

abbrev call_acts : List Act
call_acts =
    Call Virtual Plain listed Nothing ∷ Call Super Plain listed Nothing ∷ Call Direct Plain listed Nothing ∷ Call Static Plain listed Nothing ∷ Call Virtual Plain listed Nothing ∷ []

calls_act : acts_of calls ≡ call_acts ++ call_acts
unfolding calls lock_use_at place_at places_of operand_at
calls_act = refl

-- ---- unary operations: 21, of which ten give a pair
abbrev one : Act
one = Write 1 written.Number Never

abbrev two : Act
two = Write 1 written.Pair Never

unary : List Ins
unary = each 0x7b 21 (λ op. ins.Unary op 1 2)

unary_act : acts_of unary ≡
    one ∷ one ∷ two ∷ two ∷ one ∷ two ∷ two ∷ one ∷ two ∷ one ∷ one ∷ two ∷ one ∷ two ∷ two ∷ one ∷ two ∷ one ∷ one ∷ one ∷ one ∷ []
unfolding unary
unary_act = refl

-- ---- binary operations, and the same with /2addr: 32 each; whole numbers, long ones, float, double
abbrev binary_acts : List Act
binary_acts =
    replicate 3 one ++ replicate 2 (Write 1 written.Number ByChoice) ++ replicate 6 one
    ++ replicate 3 two ++ replicate 2 (Write 1 written.Pair ByChoice) ++ replicate 6 two ++ replicate 5 one ++ replicate 5 two

binary : List Ins
binary = each 0x90 64 (λ op. ins.Binary op 1 2 3)

binary_act : acts_of binary ≡ binary_acts ++ binary_acts
unfolding binary
binary_act = refl

-- ---- with a literal: 19; by 0, and by another number
literals : (value : ℤ) → List Ins
literals value = each 0xd0 19 (λ op. ins.BinaryLiteral op 1 2 value)

literals_act : acts_of (literals (pos 0)) ++ acts_of (literals (pos 7)) ≡
    replicate 3 one ++ replicate 2 (Write 1 written.Number ByChoice) ++ replicate 6 one ++ replicate 2 (Write 1 written.Number ByChoice) ++ replicate 6 one ++ replicate 19 one
unfolding literals
literals_act = refl

-- ---- all of them
all_opcodes : length (moves ++ constants (pos 0) ++ objects ++ jumps ++ accesses ++ calls ++ unary ++ binary ++ literals (pos 0)) ≡ 218
unfolding moves constants objects jumps accesses calls unary binary literals
all_opcodes = refl

-- ---- accesses of a lock field, in the four forms of an object
abbrev place : ℕ → Ins → Place
place pc own = record { pc = pc; ins = own; successors = []; handlers = []; leaves = true }

abbrev named : Operand
named = operand.Access (record { class = record { 0 = 0 }; name = record { 0 = 0 }; kind = record { 0 = 1 } })

abbrev one_lock : AppParts
one_lock = record {
  types = codes "La;" ∷ codes "Landroid/os/PowerManager$WakeLock;" ∷ [];
  names = codes "wl" ∷ [];
  protos = [];
  classes = record { name = record { 0 = 0 }; parent = None; interfaces = []; flags = 1 } ∷ [];
  methods = record { class = record { 0 = 0 }; name = record { 0 = 0 }; proto = record { 0 = 0 }; flags = 1; registers = 3; ins = 1 } ∷ [];
  fields = record { class = record { 0 = 0 }; name = record { 0 = 0 }; kind = record { 0 = 1 }; flags = 0 } ∷ [];
  locks = record { 0 = 0 } ∷ [];
  code = record { registers = 3; places = place 0 (ins.FieldGet 0x54 1 2 0) ∷ place 2 (ins.FieldPut 0x5b 1 2 0) ∷ place 4 (ins.StaticGet 0x62 1 0) ∷ place 6 (ins.StaticPut 0x69 1 0) ∷ [] } ∷ [];
  operands = (named ∷ named ∷ named ∷ named ∷ []) ∷ [];
}

locks_act : act_of one_lock 0 0 (ins.FieldGet 0x54 1 2 0) ∷ act_of one_lock 0 1 (ins.FieldPut 0x5b 1 2 0) ∷ act_of one_lock 0 2 (ins.StaticGet 0x62 1 0) ∷ act_of one_lock 0 3 (ins.StaticPut 0x69 1 0) ∷ [] ≡
    ReadSlot 1 (record { 0 = 0 }) (WhereZero 2) ∷ WriteSlot 1 (record { 0 = 0 }) (WhereZero 2) ∷ ReadSlot 1 (record { 0 = 0 }) Never ∷ WriteSlot 1 (record { 0 = 0 }) Never ∷ []
unfolding slot_at place_at places_of operand_at type_text name_text lock_of lock_in line_of class_of_type superclass_at
locks_act = refl
