use Rattle.std.proofs.Common.{◌≡◌, ◌<◌, ℕ, Some, length, get_or, slice_get}
use Rattle.app_model.specs.Components.{ComponentParts}
use Rattle.scope_check.specs.Answering.{RowHas}
use Rattle.scope_facts.specs.Bits.{Tells}
use Rattle.scope_check.proofs.answers.answer_rows.Given as goal

abbrev pub invariant-loop-c : goal.invariant-loop-c
invariant-loop-c l = record {
  len : length l.answers.items ≡ l.c;
  each : (k d : ℕ) → k < l.c → (component : ComponentParts) → slice_get l.rows k ≡ Some component → Tells (get_or l.answers.items k d) (RowHas l.below component);
}
