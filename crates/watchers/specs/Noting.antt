-- What an observer that writes holds.
use Rattle.std.specs.Prelude.{List}
use Rattle.ns_base.specs.declared.answers.Event.{Event}

-- an observer that writes what it is told to its sink
pub record Noted (K : Type 0) : Type 0 where
  -- where it writes
  pub sink : K
  -- all that it was told, oldest first
  pub events : List Event
