use Rattle.std.proofs.Common.{◌≡◌, ◌<◌, ℕ, false, get_or}
use Rattle.ns_base.specs.declared.rows.TypeNo.{TypeNo}
use Rattle.app_model.specs.Hierarchy.{is_sub}
use Rattle.scope_facts.proofs.kinds.is_thread.Given as goal

abbrev pub invariant-loop-i : goal.invariant-loop-i
invariant-loop-i l = (k : ℕ) (d : TypeNo) → k < l.i → is_sub l.app l.kind.0 (get_or l.threads k d).0 ≡ false
