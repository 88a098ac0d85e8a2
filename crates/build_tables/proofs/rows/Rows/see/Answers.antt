use Rattle.std.proofs.Common.{sym, ap, ◌∙◌, map, bytes_eq}
use Rattle.indexmap.specs.IndexSet.{insert_key}
use Rattle.build_tables.specs.Tables.{place_in}
use Rattle.build_tables.proofs.Listed.{place-items, insert-items}
use Rattle.build_tables.proofs.rows.Rows.see.Goals as goal

pub returns-clause-number : goal.returns-clause-number
returns-clause-number c = c.in_ok-number.ensures ∙ c.in_ok-place.ensures.index
    ∙ sym (place-items (λ k. k.items) c.args.row.items c.self.inside.set.keys)
    ∙ ap (λ l. place_in l c.args.row.items) c.self.view_is

pub returns-clause-rows : goal.returns-clause-rows
returns-clause-rows c = ap (map (λ k. k.items)) c.in_ok-place.ensures.keys
    ∙ insert-items (λ k. k.items) c.self.inside.set.keys c.args.row
    ∙ ap (λ l. insert_key bytes_eq l c.args.row.items) c.self.view_is
