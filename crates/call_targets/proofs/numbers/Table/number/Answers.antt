use Rattle.std.proofs.Common.{ap, sym, ◌∙◌, [], ◌∷◌, ◌++◌, length, arith}
use Rattle.call_targets.specs.Numbered.{TableParts}
use Rattle.call_targets.proofs.Numbering.{source_new, source_there}
use Rattle.call_targets.proofs.numbers.Table.number.Goals as goal

pub returns-in-Some : goal.returns-in-Some
returns-in-Some c app is = source_there app c.args.self.now c.args.source c.in-Some.number is (rw (← c.self.view_is) (sym (c.copied.ensures ∙ c.get.ensures.value) ∙ c.in-Some.is))

pub returns : goal.returns
returns c app is =
    source_new app c.args.self.now (record { keys = c.self.inside.keys.entries; sources = c.insert.new.self.entries; rows = c.push.new.self.items }) c.args.source c.len-number.result
    (omega (arith, c.len-number.ensures, c.self.inside.rows.ok.0, ap (λ (t : TableParts). length t.rows) c.self.view_is)) is
    (ap (λ (t : TableParts). t.keys) c.self.view_is)
    (c.in_ok-push.ensures.items ∙ ap (λ (t : TableParts). t.rows ++ record { source = c.args.source; keys = 0 } ∷ []) c.self.view_is)
    (λ q. rw (← c.self.view_is) (c.in_ok-insert.ensures.updates.0 q))
