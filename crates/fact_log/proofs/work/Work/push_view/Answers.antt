use Rattle.std.proofs.Common.{arith}
use Rattle.fact_log.proofs.Growing.{view_small, view_room, view_work}
use Rattle.fact_log.proofs.work.Work.push_view.Goals as goal

pub know_view-requires-clause-state : goal.know_view-requires-clause-state
know_view-requires-clause-state c = (view_small _ _ c.self.view_is c.self.invariant c.args.view (c.is_new_view.ensures.0 c.if-not-is_new_view.false)).0

pub know_view-requires-clause-status : goal.know_view-requires-clause-status
know_view-requires-clause-status c = (view_small _ _ c.self.view_is c.self.invariant c.args.view (c.is_new_view.ensures.0 c.if-not-is_new_view.false)).1

pub know_view-requires-clause-component : goal.know_view-requires-clause-component
know_view-requires-clause-component c = view_room _ _ c.self.view_is c.self.invariant c.args.view (c.is_new_view.ensures.0 c.if-not-is_new_view.false)

pub invariant_of-self-2 : goal.invariant_of-self-2
invariant_of-self-2 c = view_work _ _ c.self.view_is c.self.invariant c.args.view (c.is_new_view.ensures.0 c.if-not-is_new_view.false) _ _ (omega (arith, c.if-len.false, c.len.ensures)) c.in_ok-push.ensures.items c.know_view.ensures
