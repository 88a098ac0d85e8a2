use Rattle.std.proofs.Common.{◌≡◌}
use Rattle.toml.specs.View.{members_view}
use Rattle.component_list.specs.Keys.{wrong_member}
use Rattle.component_list.proofs.keys.wrong_member.Given as goal

abbrev pub invariant-members : goal.invariant-members
invariant-members l =
    (goal.iterator-members).can_next l.key-iterator × (goal.iterator-members).is_finite l.key-iterator
    × (wrong_member l.level (members_view l.key-iterator) ≡ wrong_member l.level (members_view l.table.entries))
