use Rattle.std.proofs.Common.{◌≡◌, length}
use Rattle.app_rows.specs.Linked.{with_methods}
use Rattle.std.specs.Vec.Iter.{into_iter_items, into_iter_len}
use Rattle.app_rows.proofs.members.ClassMembers.push_methods.Given as goal

abbrev pub invariant-loop-method : goal.invariant-loop-method
invariant-loop-method l = (with_methods l.rows l.class l.self (into_iter_items l.method-iterator) ≡ with_methods l.rows l.class l.initial.self (into_iter_items l.initial.method-iterator))
    × (into_iter_len l.method-iterator ≡ length (into_iter_items l.method-iterator))
    × (l.self.classes ≡ l.initial.self.classes)
