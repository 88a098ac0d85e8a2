-- What is read of a callback.
use Rattle.std.proofs.Common.{◌≡◌, ℕ, Some, None, sym}
use Rattle.std.specs.Prelude.{option_map, List}
use Rattle.ns_base.specs.declared.rows.MethodNo.{MethodNo}
use Rattle.app_model.specs.Components.{ComponentParts, callback_at}

pub callback_none : (list : List ComponentParts) (c k : ℕ) → option_map (λ (m : MethodNo). m.0) None ≡ callback_at list c k → callback_at list c k ≡ None
callback_none list c k is = sym is

pub callback_some : (list : List ComponentParts) (c k : ℕ) (m : MethodNo) → option_map (λ (m : MethodNo). m.0) (Some m) ≡ callback_at list c k → callback_at list c k ≡ Some m.0
callback_some list c k m is = sym is
