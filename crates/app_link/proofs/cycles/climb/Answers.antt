use Rattle.std.proofs.Common.{◌<◌, sym, subst}
use Rattle.app_link.proofs.cycles.climb.Goals as goal

pub climb_once-requires : goal.climb_once-requires
climb_once-requires c = λ k class here u p. subst (λ n. u < n) (sym c.loop.invariant.0) (c.requires.types k class here u p)
