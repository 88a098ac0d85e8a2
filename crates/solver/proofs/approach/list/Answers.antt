use Rattle.solver.proofs.Places.{place_in}
use Rattle.solver.proofs.Visits.{led_place}
use Rattle.solver.proofs.approach.list.Goals as goal

pub at_word-word-requires : goal.at_word-word-requires
at_word-word-requires c = place_in _ _ _ _ _ _ c.requires.place c.requires.place.place.index

pub at_word-requires : goal.at_word-requires
at_word-requires c = place_in _ _ _ _ _ _ (led_place _ _ _ _ _ _ c.requires.led c.requires.place) c.requires.place.place.index
