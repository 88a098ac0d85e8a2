use Rattle.std.proofs.Common.{subst, sym, ap, ◌∙◌}
use Rattle.cert_line.specs.Lines.{is_shown}
use Rattle.solution.specs.Facts.{holds}
use Rattle.certificate.specs.Parts.{LockRows}
use Rattle.certificate.specs.Texts.{IsPart}
use Rattle.certificate.proofs.WholeParts.{part_fits}
use Rattle.certificate.proofs.solved.lock_part.Goals as goal

pub returns-in-Ok-clause-text : goal.returns-in-Ok-clause-text
returns-in-Ok-clause-text c =
    let shown = ap (λ (p : LockRows). is_shown p.name) (sym c.in-Ok.ensures.rows) ∙ c.in-Ok.ensures.shown in
    subst IsPart (sym c.in-Ok.ensures.rows) (part_fits c.args.subject.now c.args.lock.0 (holds c.args.solution.now) c.told.ensures shown)
