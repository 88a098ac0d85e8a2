use Rattle.scope_facts.specs.Texts.{AreThreads}
use Rattle.scope_facts.proofs.kinds.threads_of.Given as goal

abbrev pub invariant-loop-t : goal.invariant-loop-t
invariant-loop-t l = AreThreads l.app l.t l.threads.items
