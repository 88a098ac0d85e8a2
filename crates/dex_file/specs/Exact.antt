-- Answers about a file that are exact but for want of memory.
use Rattle.std.specs.Prelude.{ℕ, ◌≡◌, ◌≢◌, List, [], ◌∷◌, Result, Ok, Err}
use Rattle.dex_bytes.specs.declared.fault.DexFault.{DexFault}
use Rattle.dex_bytes.specs.declared.fault.DexFault.TheVariants as dex
use Rattle.dalvik_decode.specs.declared.faults.CodeFault.{CodeFault}
use Rattle.dalvik_decode.specs.declared.faults.CodeFault.TheVariants as code
use Rattle.dex_file.specs.declared.fault.FileFault.{FileFault}
use Rattle.dex_file.specs.declared.fault.FileFault.TheVariants.{Dex, Code, Memory}

infixl 10 ◌>>=◌
abbrev pub ◌>>=◌ : {A B : Type 0} → Result A FileFault → (A → Result B FileFault) → Result B FileFault
(Ok x) >>= f = f x
(Err e) >>= f = Err e

-- what is reached from x with each of a list, one after another, or the first fault
abbrev pub reached : {A X : Type 0} → (X → A → Result X FileFault) → X → List A → Result X FileFault
reached step x [] = Ok x
reached step x (a ∷ more) = step x a >>= (λ y. reached step y more)

-- its fault is one of the file
abbrev pub in_dex : {T : Type 0} → Result T DexFault → Result T FileFault
in_dex (Ok x) = Ok x
in_dex (Err fault) = Err (Dex fault)

-- its fault is one of the code of this method
abbrev pub in_code : {T : Type 0} → ℕ → Result T CodeFault → Result T FileFault
in_code method (Ok x) = Ok x
in_code method (Err fault) = Err (Code method fault)

-- how a fault of a lower call is told
abbrev pub dex_fault : DexFault → FileFault
dex_fault dex.Memory = Memory
dex_fault fault = Dex fault

abbrev pub code_fault : ℕ → CodeFault → FileFault
code_fault method code.Memory = Memory
code_fault method fault = Code method fault

-- a fault is the wanted one, or memory ran out; no other fault stands for want of memory
abbrev pub IsFault : {T : Type 0} → FileFault → Result T FileFault → Type 0
IsFault Memory wanted = Unit {0}
IsFault (Dex fault) wanted = (fault ≢ dex.Memory) × (wanted ≡ Err (Dex fault))
IsFault (Code method fault) wanted = (fault ≢ code.Memory) × (wanted ≡ Err (Code method fault))

-- a call answered what is wanted, or ran out of memory
abbrev pub IsExact : {T : Type 0} → Result T FileFault → Result T FileFault → Type 0
IsExact (Ok x) wanted = wanted ≡ Ok x
IsExact (Err fault) wanted = IsFault fault wanted

-- the same of a call whose answer is seen so
abbrev pub Gives : {X Y : Type 0} → (X → Y) → Result X FileFault → Result Y FileFault → Type 0
Gives view (Ok x) wanted = wanted ≡ Ok (view x)
Gives view (Err fault) wanted = IsFault fault wanted
