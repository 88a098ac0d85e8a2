-- What an observer in memory holds.
use Rattle.std.specs.Prelude.{ℕ, Bool, true, false, List, Result, Ok, Err}
use Rattle.ns_base.specs.declared.answers.Event.{Event}
use Rattle.ns_base.specs.declared.outside.Untold.{Untold}
use Rattle.ns_base.specs.declared.outside.Untold.TheVariants.{Failed, Memory}

-- an observer that fails at named calls
pub record WatcherState : Type 0 where
  -- its kind
  pub sort : ℕ
  -- all that it was told, oldest first
  pub events : List Event
  -- the numbers of the calls that fail
  pub fails : List ℕ
  -- how many calls were made: the number of the next one
  pub calls : ℕ
  -- how many calls failed
  pub faults : ℕ

-- an event was not told for a fault, and not for want of memory
abbrev pub is_fault : Untold → Bool
is_fault Failed = true
is_fault Memory = false

-- a call of tell failed, and not for want of memory
abbrev pub is_failed : {T : Type 0} → Result T Untold → Bool
is_failed (Ok done) = false
is_failed (Err why) = is_fault why
