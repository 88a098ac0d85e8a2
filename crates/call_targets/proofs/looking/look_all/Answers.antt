use Rattle.std.proofs.Common.{arith, subst, map, ◌++◌}
use Rattle.std.proofs.lemmas.List.{take_all}
use Rattle.call_targets.specs.Looking.{AreFound, look_at}
use Rattle.call_targets.proofs.Tried.{found_more}
use Rattle.call_targets.proofs.looking.look_all.Goals as goal

pub loop-i-preserved : goal.loop-i-preserved
loop-i-preserved c numbers before = found_more c.args.app.now c.args.source.name c.args.source.proto numbers c.args.tried.now c.loop-i.i c.look_next.new.found.items (record { 0 = 0 }) c.loop-i-test.true (c.in_ok-look_next.ensures.found _ (c.loop-i.invariant numbers before))

pub returns : goal.returns
returns c numbers before = subst (λ cs. AreFound c.args.app.now (numbers ++ map (look_at c.args.app.now c.args.source.name c.args.source.proto) cs) c.loop-i.found.items) (take_all c.loop-i.i c.args.tried.now (omega (arith, c.loop-i-test.false))) (c.loop-i.invariant numbers before)
