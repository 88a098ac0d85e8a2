use Rattle.std.proofs.Common.{◌≡◌, ◌++◌, length}
use Rattle.std.specs.Prelude.{option_copied, option_map}
use Rattle.path_reader.specs.Reading.{left_by, steps_in}
use Rattle.path_reader.proofs.steps.steps.Given as goal

abbrev pub invariant-loop-item : goal.invariant-loop-item
invariant-loop-item l = option_map (λ more. l.steps.items ++ more) (steps_in (left_by 32 (option_copied l.left))) ≡ steps_in (left_by 32 (option_copied l.rest))

abbrev pub decreases-loop-item : goal.decreases-loop-item
decreases-loop-item l = length (left_by 32 (option_copied l.left))
