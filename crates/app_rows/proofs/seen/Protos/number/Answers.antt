use Rattle.std.proofs.Common.{sym}
use Rattle.app_rows.proofs.Distinct.{number-items}
use Rattle.app_rows.proofs.seen.Protos.number.Goals as goal

pub returns-in-Some : goal.returns-in-Some
returns-in-Some c = number-items (λ k. k.items) c.args.proto.now c.self.inside.set.keys _ _ (sym c.self.view_is) c.in-Some.ensures.index

pub returns-in-None : goal.returns-in-None
returns-in-None c = number-items (λ k. k.items) c.args.proto.now c.self.inside.set.keys _ _ (sym c.self.view_is) c.in-None.ensures.index
