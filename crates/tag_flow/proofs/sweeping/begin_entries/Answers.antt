use Rattle.std.proofs.Common.{◌≡◌, Some, List, length, ap, arith, get_or, subst, Contains}
use Rattle.std.specs.Prelude.{slice_get}
use Rattle.std.proofs.lemmas.List.Elements.{Contains-get_or}
use Rattle.std.proofs.lemmas.Option.{slice_get-get_or}
use Rattle.ns_base.specs.declared.rows.MethodNo.{MethodNo}
use Rattle.app_model.specs.Components.{entries_of}
use Rattle.tag_flow.specs.Goals.{EntryBegun}
use Rattle.tag_flow.proofs.Turns.{turn_end, turn_more, turn_start}
use Rattle.tag_flow.proofs.Loops.{of_one}
use Rattle.tag_flow.proofs.sweeping.begin_entries.Goals as goal

pub begin-changed-requires-clause-state : goal.begin-changed-requires-clause-state
begin-changed-requires-clause-state c =
    c.loop-i.invariant.state c.requires

pub begin-changed-requires-clause-entry : goal.begin-changed-requires-clause-entry
begin-changed-requires-clause-entry c =
    subst (λ (ns : List MethodNo). Contains ns (get_or c.entries-entries.result.now c.loop-i.i (record { 0 = 0 }))) c.entries-entries.ensures (Contains-get_or c.entries-entries.result.now c.loop-i.i (record { 0 = 0 }) c.loop-i-test.true)

pub loop-i-init : goal.loop-i-init
loop-i-init c =
    turn_start _ _ _

pub loop-i-preserved : goal.loop-i-preserved
loop-i-preserved c =
    let k = c.args.known.now in
    let n : MethodNo = get_or c.entries-entries.result.now c.loop-i.i (record { 0 = 0 }) in
    turn_more _ _ _ _ _ _ _ _ c.loop-i.invariant (of_one k (slice_get (entries_of k.list) c.loop-i.i) n (λ n. EntryBegun k n) _ _ _
    (subst (λ (ns : List MethodNo). slice_get ns c.loop-i.i ≡ Some n) c.entries-entries.ensures (slice_get-get_or c.entries-entries.result.now c.loop-i.i (record { 0 = 0 }) c.loop-i-test.true)) c.begin-changed.ensures)

pub returns : goal.returns
returns c =
    turn_end _ _ _ _ _ _ _ (omega (arith, c.loop-i-test.false, ap length c.entries-entries.ensures)) c.loop-i.invariant
