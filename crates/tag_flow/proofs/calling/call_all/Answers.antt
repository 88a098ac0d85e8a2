use Rattle.std.proofs.Common.{◌≡◌, Some, List, length, ap, arith, get_or, subst}
use Rattle.std.specs.Prelude.{slice_get}
use Rattle.std.proofs.lemmas.Option.{slice_get-get_or}
use Rattle.ns_base.specs.declared.rows.MethodNo.{MethodNo}
use Rattle.app_model.specs.CallGraph.{callees_at}
use Rattle.tag_flow.specs.Goals.{CalleeDone}
use Rattle.tag_flow.proofs.Turns.{source_kept, turn_end, turn_more, turn_start}
use Rattle.tag_flow.proofs.Loops.{of_one}
use Rattle.tag_flow.proofs.calling.call_all.Goals as goal

pub call_one-changed-requires-clause-source : goal.call_one-changed-requires-clause-source
call_one-changed-requires-clause-source c =
    source_kept _ _ _ _ _ _ c.loop-i.invariant c.requires.source

pub loop-i-init : goal.loop-i-init
loop-i-init c =
    turn_start _ _ _

pub loop-i-preserved : goal.loop-i-preserved
loop-i-preserved c =
    let k = c.args.known.now in
    let from = c.args.from in
    let n : MethodNo = get_or c.args.callees.now c.loop-i.i (record { 0 = 0 }) in
    turn_more _ _ _ _ _ _ _ _ c.loop-i.invariant (of_one k (slice_get (callees_at k.graph from.method.0 from.index) c.loop-i.i) n (λ n. CalleeDone k from.method.0 from.index c.args.act.now n) _ _ _
    (subst (λ (ns : List MethodNo). slice_get ns c.loop-i.i ≡ Some n) c.requires.callees (slice_get-get_or c.args.callees.now c.loop-i.i (record { 0 = 0 }) c.loop-i-test.true)) c.call_one-changed.ensures)

pub returns : goal.returns
returns c =
    turn_end _ _ _ _ _ _ _ (omega (arith, c.loop-i-test.false, ap length c.requires.callees)) c.loop-i.invariant
