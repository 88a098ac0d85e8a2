use Rattle.std.proofs.Common.{sym}
use Rattle.cert_check.proofs.Leading.{passes_one, successors_none, successors_end}
use Rattle.cert_check.proofs.Searches.{none_more, found_none}
use Rattle.cert_check.proofs.inside.passes_out.Goals as goal

pub returns-in_default : goal.returns-in_default
returns-in_default c = found_none _ _ c.loop-number.invariant (successors_none _ c.told.ensures _ _ (sym c.in_default.ensures))

pub loop-number-preserved : goal.loop-number-preserved
loop-number-preserved c = none_more _ _ _ c.loop-number.invariant (passes_one c.args.site.now _ _ _ _ _ _ (sym c.in-Some.ensures) c.pass.ensures (rw c.entered.ensures at c.before-in-loop-number.ensures) c.misses.ensures) c.if-misses.false

pub returns : goal.returns
returns c = found_none _ _ c.loop-number.invariant (successors_end _ c.told.ensures _ _ c.loop-number-test.false)
