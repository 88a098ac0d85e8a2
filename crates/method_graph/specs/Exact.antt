-- Answers that are exact but for want of memory.
use Rattle.std.specs.Prelude.{◌≡◌, ◌≢◌, ◌++◌, List, Result, Ok, Err}
use Rattle.dalvik_decode.specs.declared.faults.CodeFault.{CodeFault}
use Rattle.dalvik_decode.specs.declared.faults.CodeFault.TheVariants.{Memory}

infixl 10 ◌>>=◌
abbrev pub ◌>>=◌ : {A B : Type 0} → Result A CodeFault → (A → Result B CodeFault) → Result B CodeFault
(Ok x) >>= f = f x
(Err e) >>= f = Err e

-- a call answered what is wanted, or ran out of memory
abbrev pub IsExact : {T : Type 0} → Result T CodeFault → Result T CodeFault → Type 0
IsExact (Ok x) wanted = wanted ≡ Ok x
IsExact (Err e) wanted = e ≢ Memory → wanted ≡ Err e

-- a list behind another
abbrev pub behind : {T : Type 0} → List T → Result (List T) CodeFault → Result (List T) CodeFault
behind front (Ok more) = Ok (front ++ more)
behind front (Err e) = Err e

-- a call put what is wanted behind what was there, or ran out of memory
abbrev pub IsPutBehind : {D T : Type 0} → Result D CodeFault → List T → List T → Result (List T) CodeFault → Type 0
IsPutBehind (Ok done) old new wanted = behind old wanted ≡ Ok new
IsPutBehind (Err e) old new wanted = e ≢ Memory → wanted ≡ Err e
