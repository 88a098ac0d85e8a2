use Rattle.std.proofs.Common.{ℕ, ◌≡◌, ◌<◌}
use Rattle.std.specs.Prelude.{slice_get}
use Rattle.app_model.specs.Shown.{lock_text}
use Rattle.cert_facts.proofs.shape.has_name.Given as goal

abbrev pub invariant-loop-at : goal.invariant-loop-at
invariant-loop-at l = (k : ℕ) → k < l.at → slice_get l.name k ≡ slice_get (lock_text l.subject.app l.lock.0) k
