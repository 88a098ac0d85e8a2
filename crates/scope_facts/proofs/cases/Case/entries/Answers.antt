use Rattle.std.proofs.Common.{ap, ◌∙◌}
use Rattle.app_model.specs.Components.{ComponentParts}
use Rattle.scope_facts.proofs.Entries.{entries_step}
use Rattle.scope_facts.proofs.cases.Case.entries.Goals as goal

pub loop-c-preserved : goal.loop-c-preserved
loop-c-preserved c =
    entries_step c.as_slice-rows.result.now c.loop-c.c c.index-rows-c.result c.loop-c.entries.items c.push_methods.new.entries.items c.deref.result.now c.loop-c-test.true c.index-rows-c.is c.loop-c.invariant c.in_ok-push_methods.ensures
    (c.deref.ensures.value ∙ ap (λ (row : ComponentParts). row.methods) c.row.view_is)
