use Rattle.std.proofs.Common.{◌≡◌, ◌≤◌, length, take}
use Rattle.std.specs.Prelude.{filter}
use Rattle.flow_model.specs.Breaks.{may_own}
use Rattle.scope_facts.proofs.fields.owner_count.Given as goal

abbrev pub invariant-loop-c : goal.invariant-loop-c
invariant-loop-c l = record {
  is : l.count ≡ length (filter (may_own l.case.app l.field) (take l.c l.rows));
  low : l.count ≤ l.c;
}
