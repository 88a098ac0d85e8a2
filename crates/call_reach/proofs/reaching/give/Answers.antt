use Rattle.std.proofs.Common.{get_or, arith}
use Rattle.std.proofs.lemmas.List.{get_or_default}
use Rattle.call_reach.proofs.Reached.{given_more, given_none, given_whole}
use Rattle.call_reach.proofs.reaching.give.Goals as goal

pub loop-i-init : goal.loop-i-init
loop-i-init c = given_none c.args.from.now _

pub loop-i-preserved : goal.loop-i-preserved
loop-i-preserved c =
    given_more c.args.from.now c.loop-i.i (get_or c.args.from.now c.loop-i.i (record { 0 = 0 })) _ _ (λ d. get_or_default c.args.from.now c.loop-i.i (record { 0 = 0 }) d c.loop-i-test.true) c.loop-i-test.true
    (let low = c.requires c.loop-i.i (record { 0 = 0 }) c.loop-i-test.true in omega (arith, low, c.loop-i.auto.words)) c.loop-i.invariant

pub returns : goal.returns
returns c = given_whole _ c.loop-i.i _ _ (omega (arith, c.loop-i-test.false)) c.loop-i.invariant
