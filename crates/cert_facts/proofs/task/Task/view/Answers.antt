use Rattle.std.proofs.Common.{ap, ◌∙◌}
use Rattle.certificate.specs.Parts.{LockRows}
use Rattle.cert_facts.specs.Cases.{Case}
use Rattle.cert_facts.proofs.Told.{view_told}
use Rattle.cert_facts.proofs.task.Task.view.Goals as goal

pub returns : goal.returns
returns c = λ s. view_told c.args.self.now _ _ _ _ _ s c.rows_of_state-rows.ensures (c.deref.ensures.value ∙ ap (λ (p : LockRows). p.views) c.part.view_is ∙ ap (λ (t : Case). t.part.views) c.self.view_is) (c.view_mask.ensures s)
