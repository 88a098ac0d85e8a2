use Rattle.app_model.proofs.TypeIndex.{IsFilled}
use Rattle.app_model.proofs.hierarchy.index_types.Given as goal

abbrev pub invariant-loop-c : goal.invariant-loop-c
invariant-loop-c l = IsFilled l.count l.classes l.c l.index.items
