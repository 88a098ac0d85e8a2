use Rattle.cert_line.specs.Lines.{has_fact}
use Rattle.solution.specs.Facts.{holds}
use Rattle.certificate.specs.Solved.{body_row}
use Rattle.certificate.proofs.Ranges.{one_more_row}
use Rattle.certificate.proofs.solved.put_bodies.Goals as goal

pub loop-entry-preserved : goal.loop-entry-preserved
loop-entry-preserved c =
    one_more_row has_fact (body_row (holds c.args.solution.now) c.args.code.method.0 c.args.code.len) c.loop-entry.entry c.args.rows.now.items c.loop-entry.rows.items _ c.loop-entry.invariant c.in_ok-put_body.ensures
