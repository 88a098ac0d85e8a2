use Rattle.derivation.proofs.Gathered.{one_more_lock}
use Rattle.derivation.proofs.gathering.derive_more.Goals as goal

pub returns-in-Ok : goal.returns-in-Ok
returns-in-Ok c =
    rw c.in-Ok.ensures.items (one_more_lock c.args.subject.now c.args.lock.0 c.args.reports.now.items c.in_ok-more.more.items c.requires.before c.in_ok-more.ensures)
