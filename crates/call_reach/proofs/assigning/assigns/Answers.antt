use Rattle.call_reach.proofs.Assigned.{assigned_of}
use Rattle.call_reach.proofs.Reached.{ok_then}
use Rattle.call_reach.proofs.assigning.assigns.Goals as goal

pub returns-in-Ok : goal.returns-in-Ok
returns-in-Ok c =
    ok_then _ _ c.gathers.result
    (λ words gathered. assigned_of c.args.app.now c.args.graph.now c.requires.fits c.in-Ok.words.items words.items c.in-Ok.ensures gathered)
    c.gathers.ensures
