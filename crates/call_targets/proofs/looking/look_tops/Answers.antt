use Rattle.std.proofs.Common.{inr, sym, ◌∙◌}
use Rattle.call_targets.proofs.Tried.{ends_outside, found_more}
use Rattle.call_targets.proofs.looking.look_tops.Goals as goal

pub loop-i-preserved : goal.loop-i-preserved
loop-i-preserved c numbers before = found_more c.args.app.now c.args.source.name c.args.source.proto numbers c.args.tops.now c.loop-i.i c.look_next.new.found.items (record { 0 = 0 }) c.loop-i-test.true (c.in_ok-look_next.ensures.found _ (c.loop-i.invariant numbers before))

pub returns-then-branch-clause-found : goal.returns-then-branch-clause-found
returns-then-branch-clause-found c numbers before = found_more c.args.app.now c.args.source.name c.args.source.proto numbers c.args.tops.now c.loop-i.i c.look_next.new.found.items (record { 0 = 0 }) c.loop-i-test.true (c.in_ok-look_next.ensures.found _ (c.loop-i.invariant numbers before))

pub returns-then-branch-clause-enough : goal.returns-then-branch-clause-enough
returns-then-branch-clause-enough c = inr (ends_outside c.args.app.now c.args.source.name c.args.source.proto c.args.tops.now c.loop-i.i _ c.loop-i-test.true (sym c.in_ok-look_next.ensures.outside ∙ c.if-branch.true))
