use Rattle.std.proofs.Common.{◌≡◌, drop}
use Rattle.app_link.specs.LinkFaults.{place_from}
use Rattle.app_link.proofs.class_checks.find_place.Given as goal

abbrev pub invariant-loop-n : goal.invariant-loop-n
invariant-loop-n l = place_from l.n (drop l.n l.counts) l.row ≡ place_from 0 l.counts l.class
