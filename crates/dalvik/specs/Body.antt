-- The code of a method as places, and what always holds of it.
use Rattle.std.specs.Prelude.{ℕ, ◌<◌, ◌≤◌, ◌≡◌, ◌^◌, List, [], length, true}
use Rattle.std.specs.List.{All, AllPairs}
use Rattle.dalvik.specs.declared.ins.Ins.{Ins}
use Rattle.dalvik.specs.declared.ins.Ins.TheVariants.{Nop, ReturnVoid, Return, Throw, Switch, IfPair, IfZero}
use Rattle.dalvik.specs.declared.body.Place.{Place}
use Rattle.dalvik.specs.Registers.{registers_of}

-- a body's registers, and its places in order
pub record BodyRows : Type 0 where
  pub registers : ℕ
  pub places : List Place

-- a return or throw has no successor, a nop at most one, an if two, a switch at least one, and every other instruction one
abbrev pub IsSuccessorCount : Ins → ℕ → Type 0
IsSuccessorCount Nop n = n ≤ 1
IsSuccessorCount ReturnVoid n = n ≡ 0
IsSuccessorCount (Return op from) n = n ≡ 0
IsSuccessorCount (Throw object) n = n ≡ 0
IsSuccessorCount (IfPair op left right offset) n = n ≡ 2
IsSuccessorCount (IfZero op value offset) n = n ≡ 2
IsSuccessorCount (Switch op value offset) n = 1 ≤ n
IsSuccessorCount _ n = n ≡ 1

-- one place of a body with so many registers and so many places
pub record IsSoundPlace (registers count : ℕ) (place : Place) : Type 0 where
  pub named : All (λ r. r < registers) (registers_of place.ins)
  pub successors : All (λ i. i < count) place.successors
  pub handlers : All (λ i. i < count) place.handlers
  pub successor_count : IsSuccessorCount place.ins (length place.successors)
  pub successor_limit : length place.successors < 2 ^ 32
  pub handler_limit : length place.handlers < 2 ^ 32
  -- where there is no handler, a throw can leave
  pub leaves : place.handlers ≡ [] → place.leaves ≡ true

pub record IsBody (registers : ℕ) (places : List Place) : Type 0 where
  pub limit : length places < 2 ^ 32
  pub rising : AllPairs (λ a b. a.pc < b.pc) places
  pub each : All (λ place. IsSoundPlace registers (length places) place) places
