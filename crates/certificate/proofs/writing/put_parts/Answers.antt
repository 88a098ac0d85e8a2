use Rattle.certificate.proofs.Texts.{one_more_part}
use Rattle.certificate.proofs.writing.put_parts.Goals as goal

pub loop-i-preserved : goal.loop-i-preserved
loop-i-preserved c = one_more_part c.args.parts.now c.loop-i.i c.index-parts-i.result c.args.out.now.items _ _ c.loop-i-test.true c.index-parts-i.is c.loop-i.invariant c.in_ok-put_part.ensures
