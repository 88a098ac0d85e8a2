use Rattle.std.proofs.Common.{◌^◌, ◌<◌, rules}
use Rattle.solution.specs.Facts.{holds}
use Rattle.certificate.proofs.BodyRows.{body_is}
use Rattle.certificate.proofs.solved.body_of.Goals as goal

pub returns : goal.returns
returns c =
    let ret : c.ret.result < 2 ^ 8 = search rules in
    let exc : c.exc.result < 2 ^ 8 = search rules in
    body_is (holds c.args.solution.now) c.args.code.method.0 c.args.code.len c.args.entry c.ret.result c.exc.result _ ret c.ret.ensures exc c.exc.ensures c.in_ok-masks.ensures
