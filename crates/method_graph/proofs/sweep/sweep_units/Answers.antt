use Rattle.std.proofs.Common.{rules, sym, ◌∙◌}
use Rattle.method_graph.proofs.Rest.{rest_all, turn_next, turn_broken, turn_past, reached_next}
use Rattle.method_graph.proofs.sweep.sweep_units.Goals as goal

pub loop-pc-init : goal.loop-pc-init
loop-pc-init c = (rw c.in_ok-sweep.ensures (rest_all c.args.units.now), search rules, search rules, search rules)

pub loop-pc-preserved : goal.loop-pc-preserved
loop-pc-preserved c =
    let after = sym c.in_ok-next.ensures.next ∙ c.in-Some.is in (
      turn_next _ _ _ _ _ _ c.loop-pc.invariant.0 c.in_ok-next.ensures.rows c.loop-pc-test.true after,
      (search rules),
      reached_next _ _ _ _ after c.in_ok-next.ensures.reached,
      (rw c.in-Some.is at c.in_ok-next.ensures.bounds).1,
    )

pub returns-in-None : goal.returns-in-None
returns-in-None c = record {
  rows = turn_broken _ _ _ _ _ c.loop-pc.invariant.0 c.in_ok-next.ensures.rows c.loop-pc-test.true (sym c.in_ok-next.ensures.next ∙ c.in-None.is);
  len = c.in_ok-next.ensures.count ∙ c.loop-pc.invariant.1;
}

pub returns : goal.returns
returns c = record {
  rows = turn_past _ _ _ _ c.loop-pc.invariant.0 c.loop-pc-test.false;
  len = c.loop-pc.invariant.1;
}
