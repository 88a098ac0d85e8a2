use Rattle.std.proofs.Common.{ap, ap₂, cond, sym, ◌∙◌, Some, ℕ, List}
use Rattle.call_targets.specs.Numbered.{TableParts, number_in, same_parts}
use Rattle.call_targets.specs.declared.sources.Key.{Key}
use Rattle.call_targets.proofs.Numbering.{call_new}
use Rattle.call_targets.proofs.numbers.Table.add.Goals as goal

pub returns : goal.returns
returns c app call is key told =
    let added = c.in_ok-number.ensures app is in
    let counted = c.self-2.view_is ∙ c.in_ok-count.ensures added.there.set added.there.there in
    call_new app c.args.self.now c.number.new.self (record { keys = c.insert.new.self.entries; sources = c.self-2.inside.sources.entries; rows = c.self-2.inside.rows.items }) call c.args.source c.in_ok-number.number added
    (ap (λ (t : TableParts). t.rows) counted) (ap (λ (t : TableParts). t.sources) counted)
    (λ q. c.in_ok-insert.ensures.updates.0 q ∙ ap₂ (λ (k : Key) (ks : List (Key × ℕ)). cond (same_parts k q) (Some c.in_ok-number.number) (number_in ks q)) key (ap (λ (t : TableParts). t.keys) counted))
    (ap (number_in c.args.self.now.keys) (sym key) ∙ c.requires) told
