use Rattle.std.proofs.Common.{sym}
use Rattle.view_solver.proofs.Judged.{ends_none, ends_one}
use Rattle.view_solver.proofs.judging.edge_ends.Goals as goal

pub carry_word-requires : goal.carry_word-requires
carry_word-requires c = record { facts = c.requires.facts; component = c.requires.component; number = c.args.number; there = sym c.in-Some.ensures.edge; from = c.in-Some.ensures.small.0; to = c.in-Some.ensures.small.1 }

pub view-seen-requires-clause-component : goal.view-seen-requires-clause-component
view-seen-requires-clause-component c = rw c.requires.facts.places.views c.requires.component

pub returns-in_default : goal.returns-in_default
returns-in_default c = ends_none _ _ _ _ _ _ (sym c.in_default.ensures.edge)

pub returns : goal.returns
returns c = ends_one _ _ _ _ _ _ _ _ _ _ (sym c.in-Some.ensures.edge) c.if-edge-callback.false c.view-seen.ensures c.carry_word.ensures c.lead.ensures
