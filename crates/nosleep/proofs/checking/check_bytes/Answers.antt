use Rattle.std.proofs.Common.{map}
use Rattle.nosleep.proofs.Certified.{read_answer, unread_answer}
use Rattle.nosleep.proofs.checking.check_bytes.Goals as goal

pub returns-in-Ok : goal.returns-in-Ok
returns-in-Ok c =
    read_answer c.args.subject.now c.args.cert.now c.args.list.now (map (λ v. v.items) c.args.files.now) _ c.check_read.result
    c.in-Ok.ensures.found.0 c.in-Ok.ensures.found.1 c.check_read.ensures

pub returns-in-Err : goal.returns-in-Err
returns-in-Err c =
    unread_answer c.args.subject.now c.args.cert.now c.args.list.now (map (λ v. v.items) c.args.files.now) c.in-Err.fault c.refuse_certificate.result
    c.in-Err.ensures.line c.refuse_certificate.ensures
