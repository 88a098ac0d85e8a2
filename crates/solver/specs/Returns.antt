-- Instructions that return.
use Rattle.std.specs.Prelude.{Bool, true, false}
use Rattle.dalvik.specs.declared.ins.Ins.{Ins}
use Rattle.dalvik.specs.declared.ins.Ins.TheVariants.{ReturnVoid, Return}

abbrev pub returns : Ins → Bool
returns ReturnVoid = true
returns (Return op from) = true
returns ins = false
