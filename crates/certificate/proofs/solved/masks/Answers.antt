use Rattle.std.proofs.Common.{◌^◌, ◌<◌, rules}
use Rattle.solution.specs.Facts.{holds}
use Rattle.certificate.proofs.BodyRows.{more_masks}
use Rattle.certificate.proofs.solved.masks.Goals as goal

pub loop-index-preserved : goal.loop-index-preserved
loop-index-preserved c =
    let fits : c.at.result < 2 ^ 8 = search rules in
    more_masks (holds c.args.solution.now) c.args.code.method.0 c.loop-index.index c.args.entry c.at.result c.loop-index.masks.items _ fits c.at.ensures c.loop-index.invariant c.in_ok-push.ensures.items
