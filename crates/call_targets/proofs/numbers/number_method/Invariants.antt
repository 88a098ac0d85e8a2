use Rattle.call_targets.specs.Numbered.{AddsUses}
use Rattle.call_targets.proofs.numbers.number_method.Given as goal

abbrev pub invariant-loop-i : goal.invariant-loop-i
invariant-loop-i l = AddsUses l.app l.method.0 l.i l.initial.table l.table l.uses.items
