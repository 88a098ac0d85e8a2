use Rattle.std.proofs.Common.{sym}
use Rattle.cert_check.proofs.Leading.{handles_one, handlers_none, handlers_end}
use Rattle.cert_check.proofs.Searches.{none_more, found_none}
use Rattle.cert_check.proofs.inside.handles_out.Goals as goal

pub returns-in_default : goal.returns-in_default
returns-in_default c = found_none _ _ c.loop-number.invariant (handlers_none _ c.told.ensures _ _ (sym c.in_default.ensures))

pub loop-number-preserved : goal.loop-number-preserved
loop-number-preserved c = none_more _ _ _ c.loop-number.invariant (handles_one c.args.site.now _ _ _ _ _ (sym c.in-Some.ensures) (rw c.entered.ensures at c.before-in-loop-number.ensures) c.misses.ensures) c.if-misses.false

pub returns : goal.returns
returns c = found_none _ _ c.loop-number.invariant (handlers_end _ c.told.ensures _ _ c.loop-number-test.false)
