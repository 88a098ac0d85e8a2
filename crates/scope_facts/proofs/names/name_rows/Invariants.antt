use Rattle.std.proofs.Common.{◌≡◌, ◌<◌, ℕ, length, get_or}
use Rattle.app_model.specs.Names.{name_text}
use Rattle.scope_facts.specs.declared.names.NameRow.{NameRow}
use Rattle.scope_facts.specs.Texts.{IsName}
use Rattle.scope_facts.proofs.names.name_rows.Given as goal

abbrev pub invariant-loop-n : goal.invariant-loop-n
invariant-loop-n l = record {
  len : length l.names.items ≡ l.n;
  each : (k : ℕ) (d : NameRow) → k < l.n → IsName (name_text l.app k) (get_or l.names.items k d);
}
