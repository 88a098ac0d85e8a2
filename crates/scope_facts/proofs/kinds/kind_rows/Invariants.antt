use Rattle.std.proofs.Common.{◌≡◌, ◌<◌, ℕ, length, get_or}
use Rattle.scope_facts.specs.declared.kinds.KindRow.{KindRow}
use Rattle.scope_facts.specs.Texts.{IsKind}
use Rattle.scope_facts.proofs.kinds.kind_rows.Given as goal

abbrev pub invariant-loop-t : goal.invariant-loop-t
invariant-loop-t l = record {
  len : length l.kinds.items ≡ l.t;
  each : (k : ℕ) (d : KindRow) → k < l.t → IsKind l.app k (get_or l.kinds.items k d);
}
