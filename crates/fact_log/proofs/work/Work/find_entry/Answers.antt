use Rattle.std.proofs.Common.{arith, below_more, rules}
use Rattle.fact_log.proofs.Searched.{all_entries}
use Rattle.fact_log.proofs.work.Work.find_entry.Goals as goal

pub loop-entry-preserved : goal.loop-entry-preserved
loop-entry-preserved c = below_more _ _ c.loop-entry.invariant (c.find_status.ensures.none (search rules))

pub returns-clause-none : goal.returns-clause-none
returns-clause-none c = λ none. all_entries _ _ _ _ (omega (arith, c.loop-entry-test.false)) c.loop-entry.invariant
