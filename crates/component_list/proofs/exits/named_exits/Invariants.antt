use Rattle.std.proofs.Common.{◌≡◌}
use Rattle.std.proofs.Common.{Ok}
use Rattle.ns_base.specs.Steps.{reached}
use Rattle.toml.specs.View.{array_view}
use Rattle.component_list.specs.Reading.{add_exit}
use Rattle.component_list.proofs.exits.named_exits.Given as goal

abbrev pub invariant-loop-place : goal.invariant-loop-place
invariant-loop-place l = reached (add_exit l.component l.kind (array_view l.names)) 0 l.place ≡ Ok l.mask
