use Rattle.std.proofs.Common.{◌≡◌, ℕ, ◌<◌, false, slice_get, get_or}
use Rattle.ns_base.specs.declared.rows.FieldNo.{FieldNo}
use Rattle.app_model.specs.Hierarchy.{is_named_field}
use Rattle.app_model.proofs.app.App.lock_in.Given as goal

-- none of those before is the one
abbrev pub invariant-loop-i : goal.invariant-loop-i
invariant-loop-i l =
    (k : ℕ) (f : FieldNo) → k < l.i → is_named_field (slice_get l.self.fields (get_or l.locks k f).0) l.name.0 l.class.0 ≡ false
