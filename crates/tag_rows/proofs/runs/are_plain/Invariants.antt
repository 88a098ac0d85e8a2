use Rattle.std.proofs.Common.{ℕ, ◌≡◌, ◌+◌, ◌<◌, ◌≤◌, slice_index, true}
use Rattle.app_model.specs.TagTable.{tag_of}
use Rattle.tag_rows.specs.Changes.{is_plain}
use Rattle.tag_rows.proofs.runs.are_plain.Given as goal

abbrev pub invariant-loop-register : goal.invariant-loop-register
invariant-loop-register l = l.plain ≡ true → (r : ℕ) → l.fn.start ≤ r → r < l.register → is_plain (tag_of (slice_index l.cells (l.from + r))) ≡ true
