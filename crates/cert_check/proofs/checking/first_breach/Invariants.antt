use Rattle.std.proofs.Common.{None}
use Rattle.cert_check.specs.Firsts.{IsFirstBreach}
use Rattle.cert_check.proofs.checking.first_breach.Given as goal

abbrev pub invariant-loop-lock : goal.invariant-loop-lock
invariant-loop-lock l = IsFirstBreach l.subject l.parts l.lock None
