use Rattle.std.proofs.Common.{◌≡◌, ◌<◌, ℕ, length, get_or}
use Rattle.scope_facts.specs.LockCode.{IsLockWord}
use Rattle.scope_facts.proofs.lock_code.lock_words.Given as goal

abbrev pub invariant-loop-method : goal.invariant-loop-method
invariant-loop-method l = record {
  len : length l.words.items ≡ l.method;
  each : (m : ℕ) → m < l.method → IsLockWord l.app m (get_or l.words.items m 0);
}
