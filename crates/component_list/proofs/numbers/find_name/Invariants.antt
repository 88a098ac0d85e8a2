use Rattle.std.proofs.Common.{bytes_eq}
use Rattle.component_list.proofs.Places.{IsFrom}
use Rattle.component_list.proofs.numbers.find_name.Given as goal

abbrev pub invariant-loop-n : goal.invariant-loop-n
invariant-loop-n l = IsFrom (bytes_eq l.name) l.app.names l.n
