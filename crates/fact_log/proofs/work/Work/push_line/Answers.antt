use Rattle.std.proofs.Common.{arith}
use Rattle.fact_log.proofs.Growing.{line_small, line_room, line_work}
use Rattle.fact_log.proofs.work.Work.push_line.Goals as goal

pub know_line-requires-clause-entry : goal.know_line-requires-clause-entry
know_line-requires-clause-entry c = (line_small _ _ c.self.view_is c.self.invariant c.args.line (c.is_new_line.ensures.0 c.if-not-is_new_line.false)).0

pub know_line-requires-clause-status : goal.know_line-requires-clause-status
know_line-requires-clause-status c = (line_small _ _ c.self.view_is c.self.invariant c.args.line (c.is_new_line.ensures.0 c.if-not-is_new_line.false)).1

pub know_line-requires-clause-room : goal.know_line-requires-clause-room
know_line-requires-clause-room c = line_room _ _ c.self.view_is c.self.invariant c.args.line (c.is_new_line.ensures.0 c.if-not-is_new_line.false)

pub invariant_of-self-2 : goal.invariant_of-self-2
invariant_of-self-2 c = line_work _ _ c.self.view_is c.self.invariant c.args.line (c.is_new_line.ensures.0 c.if-not-is_new_line.false) _ _ (omega (arith, c.if-len.false, c.len.ensures)) c.in_ok-push.ensures.items c.know_line.ensures
