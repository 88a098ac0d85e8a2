use Rattle.std.proofs.Common.{◌≡◌, drop}
use Rattle.app_rows.specs.Linked.{with_fields}
use Rattle.app_rows.proofs.members.ClassMembers.push_fields.Given as goal

abbrev pub invariant-loop-k : goal.invariant-loop-k
invariant-loop-k l = (with_fields l.rows l.class l.self (drop l.k l.fields) ≡ with_fields l.rows l.class l.initial.self l.fields) × (l.self.classes ≡ l.initial.self.classes)
