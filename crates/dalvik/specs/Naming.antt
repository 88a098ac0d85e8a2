-- What an instruction names in the id tables.
use Rattle.std.specs.Prelude.{ℕ}
use Rattle.dalvik.specs.declared.ins.Ins.{Ins}
use Rattle.dalvik.specs.declared.ins.Ins.TheVariants as ins
use Rattle.dalvik.specs.declared.naming.Naming.{Naming}
use Rattle.dalvik.specs.declared.naming.Naming.TheVariants.{Nothing, String, Kind, Field, Method}

abbrev pub naming_of : Ins → Naming
naming_of (ins.ConstString op to string) = String string
naming_of (ins.ConstClass to kind) = Kind kind
naming_of (ins.CheckCast object kind) = Kind kind
naming_of (ins.InstanceOf to object kind) = Kind kind
naming_of (ins.NewInstance to kind) = Kind kind
naming_of (ins.NewArray to size kind) = Kind kind
naming_of (ins.FilledNewArray op kind arguments) = Kind kind
naming_of (ins.FieldGet op to object field) = Field field
naming_of (ins.FieldPut op value object field) = Field field
naming_of (ins.StaticGet op to field) = Field field
naming_of (ins.StaticPut op value field) = Field field
naming_of (ins.Invoke op method arguments) = Method method
naming_of _ = Nothing

-- the instruction with a type in place of its own, where it names one
abbrev pub with_kind : ℕ → Ins → Ins
with_kind new (ins.ConstClass to kind) = ins.ConstClass to new
with_kind new (ins.CheckCast object kind) = ins.CheckCast object new
with_kind new (ins.InstanceOf to object kind) = ins.InstanceOf to object new
with_kind new (ins.NewInstance to kind) = ins.NewInstance to new
with_kind new (ins.NewArray to size kind) = ins.NewArray to size new
with_kind new (ins.FilledNewArray op kind arguments) = ins.FilledNewArray op new arguments
with_kind new other = other
