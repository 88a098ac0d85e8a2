use Rattle.std.proofs.Common.{◌≡◌, ◌++◌}
use Rattle.path_text.specs.Lines.{body_line, lines_below}
use Rattle.path_text.proofs.whole.put_bodies.Given as goal

abbrev pub invariant-loop-number : goal.invariant-loop-number
invariant-loop-number l = l.out.items ≡ l.initial.out.items ++ lines_below body_line l.bodies l.number
