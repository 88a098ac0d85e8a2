use Rattle.std.proofs.Common.{◌∙◌, ◌++◌, ◌∷◌, [], List, None, ap, get_or}
use Rattle.ns_base.specs.declared.rows.MethodNo.{MethodNo}
use Rattle.tag_flow.specs.Known.{chosen}
use Rattle.tag_flow.proofs.Reached.{chosen_more}
use Rattle.tag_flow.proofs.known.add_entries.Goals as goal

pub loop-i-preserved : goal.loop-i-preserved
loop-i-preserved c =
    c.in_ok-add_entry.ensures ∙ ap (λ (xs : List MethodNo). xs ++ chosen (get_or c.args.methods.now c.loop-i.i None ∷ [])) c.loop-i.invariant ∙ chosen_more _ c.args.methods.now c.loop-i.i None c.loop-i-test.true
