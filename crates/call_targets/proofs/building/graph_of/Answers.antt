use Rattle.std.proofs.Common.{List, Option, ℕ, map, subst, sym}
use Rattle.std.specs.declared.alloc.Global.{Global}
use Rattle.std.specs.declared.vec.Vec.{Vec}
use Rattle.app_model.specs.CallGraph.{IsGraph}
use Rattle.app_model.specs.Targets.{IsCallGraph}
use Rattle.call_targets.specs.Numbered.{IsNumbered}
use Rattle.call_targets.proofs.Graph.{is_call_graph, is_graph}
use Rattle.call_targets.proofs.building.graph_of.Goals as goal

abbrev items : Vec (Option ℕ) Global → List (Option ℕ)
items v = v.items

pub new-requires : goal.new-requires
new-requires c =
    let numbered = subst (IsNumbered c.args.app.now) (sym c.numbered.view_is) c.requires.numbered in
    subst (λ sets. IsGraph (record { sets = sets; uses = map items c.numbered.inside.uses.items })) (sym c.in_ok-sets.ensures.rows) (is_graph c.args.app.now c.told.ensures _ numbered)

pub returns-clause-graph : goal.returns-clause-graph
returns-clause-graph c =
    let numbered = subst (IsNumbered c.args.app.now) (sym c.numbered.view_is) c.requires.numbered in
    rw c.new.ensures (subst (λ sets. IsCallGraph c.args.app.now (record { sets = sets; uses = map items c.numbered.inside.uses.items })) (sym c.in_ok-sets.ensures.rows) (is_call_graph c.args.app.now c.told.ensures _ numbered))
