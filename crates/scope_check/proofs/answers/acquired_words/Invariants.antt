use Rattle.std.proofs.Common.{◌≡◌, ◌<◌, ℕ, length, get_or}
use Rattle.scope_check.specs.Answering.{AcquiresIn}
use Rattle.scope_facts.specs.Bits.{Tells}
use Rattle.scope_check.proofs.answers.acquired_words.Given as goal

abbrev pub invariant-loop-method : goal.invariant-loop-method
invariant-loop-method l = record {
  len : length l.words.items ≡ l.method;
  each : (m d : ℕ) → m < l.method → Tells (get_or l.words.items m d) (AcquiresIn l.survey m);
}
