use Rattle.std.proofs.Common.{◌≡◌, ◌≤◌, ◌*◌, ◌^◌}
use Rattle.app_model.specs.Sites.{sites_below}
use Rattle.app_link.proofs.limits.find_sites_fault.Given as goal

abbrev pub invariant-loop-m : goal.invariant-loop-m
invariant-loop-m l = (l.sites ≡ sites_below l.app l.m) × (l.sites ≤ l.m * 2 ^ 32)
