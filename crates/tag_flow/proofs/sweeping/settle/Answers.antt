use Rattle.std.proofs.Common.{subst}
use Rattle.tag_flow.specs.State.{StateParts}
use Rattle.tag_flow.specs.Turns.{Holds}
use Rattle.tag_flow.proofs.Turns.{holds_more, holds_none}
use Rattle.tag_flow.proofs.sweeping.settle.Goals as goal

pub loop-init : goal.loop-init
loop-init c =
    holds_none _ _

pub look-requires : goal.look-requires
look-requires c =
    rw c.take.ensures (c.loop.invariant.state c.requires)

pub loop-preserved : goal.loop-preserved
loop-preserved c =
    holds_more _ _ _ _ c.loop.invariant (subst (λ (s : StateParts). Holds c.args.known.now s c.look.new.state) c.take.ensures c.look.ensures)
