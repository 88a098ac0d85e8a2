use Rattle.call_reach.proofs.Assigned.{one_bit}
use Rattle.scope_facts.proofs.bits.bit_of.Goals as goal

pub returns-then-lock-lt64 : goal.returns-then-lock-lt64
returns-then-lock-lt64 c = λ l within. one_bit c.args.lock.0 c.if-lock-lt64.true l within
