use Rattle.std.proofs.Common.{◌≡◌, ◌∙◌, ◌++◌, ◌∷◌, [], true, cond, bytes_eq, sym, ap, rules}
use Rattle.component_list.proofs.RowLaws.{has_class-push}
use Rattle.component_list.proofs.rows.Rows.add.Goals as goal

pub invariant_of-self-2 : goal.invariant_of-self-2
invariant_of-self-2 c q =
    let items : c.push.new.self.items ≡ c.self.inside.rows.items ++ c.args.row ∷ [] = search rules in
    c.in_ok-insert.ensures.updates.0 q
    ∙ ap (cond (bytes_eq c.args.class.now q.now) true) (c.self.invariant q)
    ∙ rw (items, ← c.requires) (sym (has_class-push q.now c.self.inside.rows.items c.args.row))
