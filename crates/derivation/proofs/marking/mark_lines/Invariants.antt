use Rattle.std.proofs.Common.{◌≡◌, ◌≤◌, ℕ, length}
use Rattle.derivation.specs.Cuts.{AreSettled, Marked}
use Rattle.derivation.proofs.marking.mark_lines.Given as goal

abbrev pub invariant-loop-k : goal.invariant-loop-k
invariant-loop-k l = record {
  low : l.k ≤ length l.lines;
  settled : AreSettled l.lines l.k l.marks.items;
  kept : (n : ℕ) → Marked l.initial.marks.items n → Marked l.marks.items n;
  len : length l.marks.items ≡ length l.lines;
}

abbrev pub decreases-loop-k : goal.decreases-loop-k
decreases-loop-k l = l.k
