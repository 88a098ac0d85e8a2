use Rattle.std.proofs.Common.{sym, ◌∙◌}
use Rattle.app_rows.proofs.Distinct.{add-present, add-absent}
use Rattle.app_rows.proofs.seen.Texts.add.Goals as goal

pub returns-in_ok-insert-clause-texts : goal.returns-in_ok-insert-clause-texts
returns-in_ok-insert-clause-texts c =
    add-absent (λ k. k.items) c.args.text.now c.self.inside.set.keys _ _ _ (sym c.self.view_is) c.in_ok-text.ensures (sym c.get_index_of.ensures.found ∙ c.if-is_none.ensures) c.in_ok-insert.ensures.keys

pub returns-else-is_none-clause-texts : goal.returns-else-is_none-clause-texts
returns-else-is_none-clause-texts c =
    add-present (λ k. k.items) c.args.text.now c.self.inside.set.keys _ (sym c.self.view_is) (sym c.get_index_of.ensures.found ∙ c.if-is_none.ensures)
