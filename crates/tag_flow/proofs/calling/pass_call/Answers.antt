use Rattle.tag_flow.specs.Turns.{leads_out, leads_past}
use Rattle.tag_flow.proofs.Turns.{source_kept, turn_next}
use Rattle.tag_flow.proofs.calling.pass_call.Goals as goal

pub to_successors-past-requires-clause-leads : goal.to_successors-past-requires-clause-leads
to_successors-past-requires-clause-leads c =
    λ x j to. leads_past x c.args.gone c.requires.gone to

pub to_handlers-out-requires-clause-source : goal.to_handlers-out-requires-clause-source
to_handlers-out-requires-clause-source c =
    source_kept _ _ _ _ _ _ c.to_successors-past.ensures c.requires.source

pub to_handlers-out-requires-clause-leads : goal.to_handlers-out-requires-clause-leads
to_handlers-out-requires-clause-leads c =
    λ x j to. leads_out x c.args.gone c.requires.gone to

pub returns : goal.returns
returns c =
    turn_next _ _ _ _ _ _ _ _ _ (λ s a b. (a, b)) c.to_successors-past.ensures c.to_handlers-out.ensures
