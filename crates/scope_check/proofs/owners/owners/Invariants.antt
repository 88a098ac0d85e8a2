use Rattle.std.proofs.Common.{◌≡◌, ◌<◌, ℕ, Option, length, get_or}
use Rattle.ns_base.specs.declared.rows.ComponentNo.{ComponentNo}
use Rattle.scope_check.specs.Answering.{IsOwnerOf}
use Rattle.scope_check.proofs.owners.owners.Given as goal

abbrev pub invariant-loop-l : goal.invariant-loop-l
invariant-loop-l l = record {
  len : length l.owners.items ≡ l.l;
  each : (k : ℕ) (d : Option ComponentNo) → k < l.l → IsOwnerOf l.survey k (get_or l.owners.items k d);
}
