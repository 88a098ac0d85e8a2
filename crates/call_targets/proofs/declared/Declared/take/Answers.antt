use Rattle.call_targets.proofs.declared.Declared.take.Goals as goal

pub returns-clause-others : goal.returns-clause-others
returns-clause-others c q = rw (← c.self.view_is) (c.remove.ensures.updates.0 q)
