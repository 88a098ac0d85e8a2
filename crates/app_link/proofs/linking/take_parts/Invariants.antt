use Rattle.std.proofs.Common.{◌≡◌, ◌++◌, length, All}
use Rattle.std.specs.Vec.Iter.{into_iter_items, into_iter_len}
use Rattle.dex_file.specs.Reading.{IsContent}
use Rattle.dex_file.specs.Sizes.{HasFewMembers}
use Rattle.app_link.proofs.linking.take_parts.Given as goal

abbrev pub invariant-loop-file : goal.invariant-loop-file
invariant-loop-file l = record {
  rest : l.taken.items ++ into_iter_items l.file-iterator ≡ into_iter_items l.initial.file-iterator;
  len : into_iter_len l.file-iterator ≡ length (into_iter_items l.file-iterator);
  contents : All IsContent l.taken.items;
  few : All HasFewMembers l.taken.items;
}
