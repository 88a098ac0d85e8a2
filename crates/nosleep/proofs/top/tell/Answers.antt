use Rattle.std.proofs.Common.{arith}
use Rattle.nosleep.proofs.Watching.{exit_cause, watchers_told}
use Rattle.nosleep.proofs.top.tell.Goals as goal

pub returns-clause-told : goal.returns-clause-told
returns-clause-told g c =
    watchers_told _ c.args.exit c.args.kinds.now c.args.all.now c.tell_all-told.result _ _ _ c.tell_all-told.ensures.whole c.tell_all-told.ensures.faultless c.tell_all-told.ensures.cause
    (omega (arith, c.tell_all-told.ensures.len)) c.tell_all-told.ensures.each c.exit_by.ensures

pub returns-clause-ends : goal.returns-clause-ends
returns-clause-ends g c = exit_cause c.args.exit c.tell_all-told.result _ c.tell_all-told.ensures.cause c.exit_by.ensures
