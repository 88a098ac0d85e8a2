use Rattle.cert_facts.proofs.Sought.{RisesBelow}
use Rattle.cert_facts.proofs.rows.is_rising.Given as goal

abbrev pub invariant-loop-k : goal.invariant-loop-k
invariant-loop-k g l = RisesBelow g.R.Ranked.number l.rows l.k
