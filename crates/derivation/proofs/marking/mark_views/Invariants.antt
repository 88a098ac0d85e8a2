use Rattle.std.proofs.Common.{◌≡◌, ◌≤◌, ℕ, List, length}
use Rattle.fact_log.specs.declared.log.Line.{Line}
use Rattle.derivation.specs.Cuts.{AreServed, Marked}
use Rattle.derivation.proofs.marking.mark_views.Given as goal

abbrev pub invariant-loop-k : goal.invariant-loop-k
invariant-loop-k l = record {
  low : l.k ≤ length l.views;
  served : (lines : List Line) → length l.initial.marks.items ≡ length lines → AreServed lines l.views l.k l.seen.items l.marks.items;
  kept_views : (n : ℕ) → Marked l.initial.seen.items n → Marked l.seen.items n;
  kept_lines : (n : ℕ) → Marked l.initial.marks.items n → Marked l.marks.items n;
  len_views : length l.seen.items ≡ length l.views;
  len_lines : length l.marks.items ≡ length l.initial.marks.items;
}

abbrev pub decreases-loop-k : goal.decreases-loop-k
decreases-loop-k l = l.k
