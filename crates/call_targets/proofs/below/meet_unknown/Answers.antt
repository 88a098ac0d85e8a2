use Rattle.std.proofs.Common.{arith, sym, ◌∙◌}
use Rattle.call_targets.proofs.Downward.{walked_known, walked_unknown}
use Rattle.call_targets.proofs.below.meet_unknown.Goals.{then-is_unknown+in_ok-meet, else-is_unknown}
use Rattle.call_targets.proofs.below.meet_unknown.Goals as goal

pub loop-t-preserved : goal.loop-t-preserved
loop-t-preserved c = elim c.if-is_unknown.branch [
  | then-is_unknown+in_ok-meet w ↦
      rw (w.walk-is, w.in_ok-meet.ensures) (record {
        types = c.loop-t.invariant.types;
        walked = walked_unknown c.args.app.now c.told.ensures c.args.kind.0 c.loop-t.t c.loop-t.walk.kinds c.requires.outside (omega (arith, c.loop-t-test.true, c.type_count-t-end.ensures)) (sym c.is_unknown.ensures ∙ w.if-is_unknown.true) c.loop-t.invariant.walked;
      })
  | else-is_unknown w ↦
      rw w.walk-is (record {
        types = c.loop-t.invariant.types;
        walked = walked_known c.args.app.now c.told.ensures c.args.kind.0 c.loop-t.t c.loop-t.walk.kinds (sym c.is_unknown.ensures ∙ w.if-is_unknown.false) c.loop-t.invariant.walked;
      })
]
