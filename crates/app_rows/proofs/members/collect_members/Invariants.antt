use Rattle.std.proofs.Common.{◌≡◌, ◌≤◌, ◌+◌, ◌*◌, length, fold, All}
use Rattle.std.specs.Vec.Iter.{into_iter_items, into_iter_len}
use Rattle.app_rows.specs.Linked.{with_file, no_members}
use Rattle.app_rows.specs.Small.{IsSmall}
use Rattle.app_rows.proofs.members.collect_members.Given as goal

abbrev pub invariant-loop-file : goal.invariant-loop-file
invariant-loop-file l = record {
  rest : fold (with_file l.seen) l.members (into_iter_items l.file-iterator) ≡ fold (with_file l.seen) no_members (into_iter_items l.initial.file-iterator);
  len : into_iter_len l.file-iterator ≡ length (into_iter_items l.file-iterator);
  room : length l.members.classes + 8388608 * length (into_iter_items l.file-iterator) ≤ 134217728;
  small : All IsSmall (into_iter_items l.file-iterator);
}
