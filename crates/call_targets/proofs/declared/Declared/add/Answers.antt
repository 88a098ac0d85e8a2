use Rattle.std.proofs.Common.{[], ◌∷◌, ◌++◌, ap, ◌∙◌}
use Rattle.call_targets.proofs.Listed.{list_more}
use Rattle.call_targets.proofs.declared.Declared.add.Goals as goal

pub returns : goal.returns
returns c =
    list_more c.args.self.now c.self.inside.lists.entries c.insert.new.self.entries c.args.signature c.args.class c.push.new.self (rw c.self.view_is c.take-list.ensures.others) c.in_ok-insert.ensures.updates.0
    (c.in_ok-push.ensures.items ∙ ap (λ xs. xs ++ c.args.class ∷ []) c.take-list.ensures.list)
