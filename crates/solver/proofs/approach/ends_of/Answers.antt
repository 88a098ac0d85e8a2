use Rattle.solver.proofs.approach.ends_of.Goals as goal

pub ret_word-requires : goal.ret_word-requires
ret_word-requires c = rw c.requires.facts.places.rets c.requires.place.method

pub exc_word-requires : goal.exc_word-requires
exc_word-requires c = rw c.requires.facts.places.excs c.requires.place.method
