-- What the steps after writing come to.
use Rattle.std.specs.Prelude.{◌≡◌, ◌<◌, ◌⊎◌}
use Rattle.ns_base.specs.declared.answers.Exit.{Exit}
use Rattle.ns_base.specs.declared.answers.Exit.TheVariants as exits
use Rattle.nosleep.specs.declared.telling.Told.{Told}

-- want of memory comes before a fault
pub data HasExit (exit : Exit) (told : Told) (result : Exit) : Type 0 where
  starved : 0 < told.starved → result ≡ exits.Partly → HasExit exit told result
  failed : told.starved ≡ 0 → 0 < told.failed → result ≡ exits.WatcherFault → HasExit exit told result
  none : told.starved ≡ 0 → told.failed ≡ 0 → result ≡ exit → HasExit exit told result

-- the exit, unless watchers were told less: then a fault only with its cause
pub data IsExitBy (Cause : Type 0) (exit result : Exit) : Type 0 where
  as_is : result ≡ exit → IsExitBy Cause exit result
  partly : result ≡ exits.Partly → IsExitBy Cause exit result
  fault : result ≡ exits.WatcherFault → Cause → IsExitBy Cause exit result
