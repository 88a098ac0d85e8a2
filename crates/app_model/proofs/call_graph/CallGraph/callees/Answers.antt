use Rattle.std.proofs.Common.{◌≡◌, subst, rules}
use Rattle.app_model.specs.CallGraph.{AreRising, IsGraph, callees_at}
use Rattle.app_model.proofs.Callees.{rising_at}
use Rattle.app_model.proofs.call_graph.CallGraph.callees.Goals as goal

pub returns-in-Some-clause-rising : goal.returns-in-Some-clause-rising
returns-in-Some-clause-rising c =
    let sound : IsGraph c.args.self.now = rw (← c.self.view_is) c.self.invariant in
    let same : callees_at c.args.self.now c.args.method.0 c.args.index ≡ c.deref.result.now = search rules in
    subst AreRising same (rising_at _ _ _ sound)
