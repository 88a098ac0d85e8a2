use Rattle.tag_flow.proofs.Closed.{closed}
use Rattle.tag_flow.proofs.sweeping.close.Goals as goal

pub loop-changed-preserved : goal.loop-changed-preserved
loop-changed-preserved c =
    let i = c.loop-changed.invariant in
    record { state = c.sweep-changed.ensures.state (c.settle.ensures.state i.state); below = c.sweep-changed.ensures.below (c.settle.ensures.below i.below); done = c.sweep-changed.ensures.done }

pub returns-clause-closed : goal.returns-clause-closed
returns-clause-closed c =
    closed _ c.told.ensures _ c.loop-changed.invariant.state (c.loop-changed.invariant.done c.loop-changed-test.false)
