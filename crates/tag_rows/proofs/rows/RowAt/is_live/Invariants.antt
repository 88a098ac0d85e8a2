use Rattle.std.proofs.Common.{ℕ, ◌≡◌, ◌<◌, slice_index}
use Rattle.tag_rows.proofs.rows.RowAt.is_live.Given as goal

abbrev pub invariant-loop-register : goal.invariant-loop-register
invariant-loop-register l = (r : ℕ) → r < l.register → slice_index l.cells r ≡ 0
