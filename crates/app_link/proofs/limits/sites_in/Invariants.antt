use Rattle.std.proofs.Common.{◌≡◌, ◌≤◌}
use Rattle.app_model.specs.Sites.{sites_in}
use Rattle.app_link.proofs.limits.sites_in.Given as goal

abbrev pub invariant-loop-i : goal.invariant-loop-i
invariant-loop-i l = (l.sites ≡ sites_in l.app l.method l.i) × (l.sites ≤ l.i)
