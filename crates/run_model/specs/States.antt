-- The locks of code as the machine counts them.
use Rattle.std.specs.Prelude.{Option, Some, None}
use Rattle.run_model.specs.declared.status.LockState.{LockState}
use Rattle.run_model.specs.Heaps.{Counter}

abbrev pub counters : Option LockState → Option Counter
counters None = None
counters (Some lock) = Some (record { count = lock.count; counted = lock.counted })
