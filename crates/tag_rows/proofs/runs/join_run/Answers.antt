use Rattle.std.proofs.Common.{◌-◌, arith}
use Rattle.tag_rows.proofs.Running.{joined_run}
use Rattle.tag_rows.proofs.runs.join_run.Goals as goal

pub returns-then-are_joined-clause-run : goal.returns-then-are_joined-clause-run
returns-then-are_joined-clause-run c =
    joined_run c.args.pair.now c.args.start (c.next_odd-end.result - c.args.start) c.next_odd-end.result _ (omega (arith, c.next_odd-end.ensures.later)) (c.are_joined.ensures c.if-are_joined.true)
