use Rattle.std.proofs.Common.{true≢false}
use Rattle.call_reach.proofs.Turns.{is_spread, keeps_more, keeps_none}
use Rattle.call_reach.proofs.spread.close.Goals as goal

pub loop-changed-init : goal.loop-changed-init
loop-changed-init c = record { keeps = keeps_none _ _; done = λ e. absurd (true≢false e) }

pub loop-changed-preserved : goal.loop-changed-preserved
loop-changed-preserved c = record {
  keeps = keeps_more _ _ _ _ c.loop-changed.invariant.keeps c.sweep-changed.ensures.keeps;
  done = c.sweep-changed.ensures.done;
}

pub returns : goal.returns
returns c = is_spread _ _ _ c.loop-changed.invariant.keeps (c.loop-changed.invariant.done c.loop-changed-test.false)
