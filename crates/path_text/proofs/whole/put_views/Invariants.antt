use Rattle.std.proofs.Common.{◌≡◌, ◌++◌}
use Rattle.path_text.specs.Lines.{lines_below, view_line}
use Rattle.path_text.proofs.whole.put_views.Given as goal

abbrev pub invariant-loop-number : goal.invariant-loop-number
invariant-loop-number l = l.out.items ≡ l.initial.out.items ++ lines_below view_line l.views l.number
