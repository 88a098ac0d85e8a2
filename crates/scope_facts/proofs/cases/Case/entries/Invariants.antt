use Rattle.std.proofs.Common.{◌≡◌, take}
use Rattle.app_model.specs.Components.{entries_of}
use Rattle.scope_facts.proofs.cases.Case.entries.Given as goal

abbrev pub invariant-loop-c : goal.invariant-loop-c
invariant-loop-c l = l.entries.items ≡ entries_of (take l.c l.rows)
