use Rattle.std.proofs.Common.{◌≡◌, ◌≤◌, ◌+◌, ◌^◌, length, fold}
use Rattle.std.specs.Vec.Iter.{into_iter_items, into_iter_len}
use Rattle.app_rows.specs.Linked.{with_class}
use Rattle.app_rows.proofs.members.ClassMembers.push_classes.Given as goal

abbrev pub invariant-loop-class : goal.invariant-loop-class
invariant-loop-class l = record {
  rest : fold (with_class l.rows) l.self (into_iter_items l.class-iterator) ≡ fold (with_class l.rows) l.initial.self (into_iter_items l.initial.class-iterator);
  len : into_iter_len l.class-iterator ≡ length (into_iter_items l.class-iterator);
  room : length l.self.classes + length (into_iter_items l.class-iterator) ≤ 2 ^ 32;
  count : length l.self.classes + length (into_iter_items l.class-iterator) ≡ length l.initial.self.classes + length (into_iter_items l.initial.class-iterator);
}
