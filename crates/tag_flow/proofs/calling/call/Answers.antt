use Rattle.std.proofs.Common.{ap, arith, length}
use Rattle.app_model.specs.CallGraph.{callees_at}
use Rattle.tag_flow.specs.Goals.{CallPassed, CalleeDone, Called}
use Rattle.tag_flow.proofs.Turns.{source_kept, turn_next, turn_none}
use Rattle.tag_flow.proofs.Loops.{turn_each}
use Rattle.tag_flow.proofs.calling.call.Goals as goal

pub returns-then-count-eq0 : goal.returns-then-count-eq0
returns-then-count-eq0 c =
    turn_none _ _ _ (λ n there. absurd (omega (arith, there.1, c.if-count-eq0.true, ap length c.callees-callees.ensures)))

pub call_all-called-requires-clause-source : goal.call_all-called-requires-clause-source
call_all-called-requires-clause-source c =
    source_kept _ _ _ _ _ _ c.pass_call-passed.ensures c.requires.source

pub returns : goal.returns
returns c =
    let k = c.args.known.now in
    let m = c.args.from.method.0 in
    let i = c.args.from.index in
    turn_next k (CallPassed k m i c.gone-gone.result) _ (Called k m i c.args.act.now) _ _ _ _ _ (λ s passed all n there. ((c.gone-gone.result, c.gone-gone.ensures, passed), all n there)) c.pass_call-passed.ensures
    (turn_each k (callees_at k.graph m i) (λ n. CalleeDone k m i c.args.act.now n) _ _ _ c.call_all-called.ensures)
