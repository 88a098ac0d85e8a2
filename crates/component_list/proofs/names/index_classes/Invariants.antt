use Rattle.std.proofs.Common.{◌≡◌, ◌≤◌, ℕ, List, drop, length, bytes_eq, Bor}
use Rattle.std.specs.List.{position_from}
use Rattle.std.specs.Map.{lookup}
use Rattle.component_list.specs.Binding.{is_named}
use Rattle.component_list.proofs.names.index_classes.Given as goal

abbrev pub decreases-loop-left : goal.decreases-loop-left
decreases-loop-left l = l.left

abbrev pub invariant-loop-left : goal.invariant-loop-left
invariant-loop-left l =
    (l.left ≤ length l.app.classes)
    × ((name : Bor (List ℕ)) → lookup (λ (known : Bor (List ℕ)). bytes_eq name.now known.now) l.names.entries ≡ position_from (is_named l.app name.now) l.left (drop l.left l.app.classes))
