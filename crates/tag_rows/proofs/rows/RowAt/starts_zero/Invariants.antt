use Rattle.std.proofs.Common.{ℕ, ◌≡◌, ◌<◌, slice_index, true}
use Rattle.tag_rows.proofs.rows.RowAt.starts_zero.Given as goal

abbrev pub invariant-loop-register : goal.invariant-loop-register
invariant-loop-register l = l.zero ≡ true → (r : ℕ) → r < l.register → slice_index l.cells r ≡ 1
