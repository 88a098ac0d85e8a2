use Rattle.std.proofs.Common.{◌≡◌, drop}
use Rattle.std.specs.Prelude.{is_none}
use Rattle.std.specs.List.{list_any}
use Rattle.class_graph.specs.Answers.{found_number}
use Rattle.class_graph.specs.declared.graph.Found.{Found}
use Rattle.call_targets.proofs.found.leads_outside.Given as goal

abbrev pub invariant-loop-i : goal.invariant-loop-i
invariant-loop-i l = list_any (λ (f : Found). is_none (found_number f)) l.found ≡ list_any (λ (f : Found). is_none (found_number f)) (drop l.i l.found)
