use Rattle.std.proofs.Common.{arith, get_or}
use Rattle.std.proofs.lemmas.Option.{slice_get-get_or}
use Rattle.tag_flow.proofs.Masks.{part_more, part_none, part_whole}
use Rattle.tag_flow.proofs.known.Known.gone.Goals as goal

pub loop-i-init : goal.loop-i-init
loop-i-init c =
    part_none _ _

pub loop-i-preserved : goal.loop-i-preserved
loop-i-preserved c =
    part_more _ c.args.callees.now c.loop-i.i c.loop-i.gone _ (get_or c.args.callees.now c.loop-i.i (record { 0 = 0 })) (slice_get-get_or c.args.callees.now c.loop-i.i (record { 0 = 0 }) c.loop-i-test.true) c.mask-gone.ensures c.loop-i.invariant

pub returns : goal.returns
returns c =
    part_whole _ _ _ _ c.loop-i.i c.args.callees.now c.requires.callees c.requires.some (omega (arith, c.loop-i-test.false)) c.loop-i.invariant
