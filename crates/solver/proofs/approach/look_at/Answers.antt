use Rattle.solver.proofs.Places.{place_in}
use Rattle.solver.proofs.Visits.{place_of, led_place}
use Rattle.solver.proofs.approach.look_at.Goals as goal

pub at_word-requires : goal.at_word-requires
at_word-requires g c = let p = place_of _ _ _ _ _ c.requires.facts (c.is_place.ensures c.if-not-is_place.false) in place_in _ _ _ _ _ _ (led_place _ _ _ _ _ _ c.requires.led.places p) p.place.index
