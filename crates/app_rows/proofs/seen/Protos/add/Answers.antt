use Rattle.std.proofs.Common.{sym, refl, ◌∙◌}
use Rattle.app_rows.proofs.Distinct.{add-present, add-absent}
use Rattle.app_rows.proofs.seen.Protos.add.Goals as goal

pub returns-in_ok-insert-clause-protos : goal.returns-in_ok-insert-clause-protos
returns-in_ok-insert-clause-protos c =
    add-absent (λ k. k.items) c.args.proto.items c.self.inside.set.keys _ _ _ (sym c.self.view_is) refl (sym c.get_index_of.ensures.found ∙ c.if-is_none.ensures) c.in_ok-insert.ensures.keys

pub returns-else-is_none-clause-protos : goal.returns-else-is_none-clause-protos
returns-else-is_none-clause-protos c =
    add-present (λ k. k.items) c.args.proto.items c.self.inside.set.keys _ (sym c.self.view_is) (sym c.get_index_of.ensures.found ∙ c.if-is_none.ensures)
