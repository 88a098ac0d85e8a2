use Rattle.std.proofs.Common.{◌≤◌, ◌+◌, arith}
use Rattle.std.proofs.lemmas.Option.{slice_get_read, slice_get_within}
use Rattle.watchers.proofs.Numbers.{Progress-step, Progress-le, Progress-whole, Progress-faultless, Progress-cause}
use Rattle.nosleep.proofs.telling.tell_all.Goals as goal

pub loop-i-preserved : goal.loop-i-preserved
loop-i-preserved g c =
    let here = slice_get_read _ c.len-i-end.result _ _ (omega arith) c.loop-i-test.true c.index_mut.ensures.value in
    let one = c.tell_chosen-one.ensures in
    Progress-step _ _ _ _ _ _ _ _ _ _ c.index_mut.result.now c.tell_chosen-one.new.watcher here c.loop-i.invariant one.told one.other one.sum one.starved

pub overflow_add-told : goal.overflow_add-told
overflow_add-told g c =
    let before : c.loop-i.told.failed + c.loop-i.told.starved ≤ c.loop-i.i = Progress-le c.loop-i.invariant in
    omega (arith, before, c.tell_chosen-one.ensures.most, c.loop-i-test.true)

pub overflow_add-told-in-loop-i : goal.overflow_add-told-in-loop-i
overflow_add-told-in-loop-i g c =
    let before : c.loop-i.told.failed + c.loop-i.told.starved ≤ c.loop-i.i = Progress-le c.loop-i.invariant in
    omega (arith, before, c.tell_chosen-one.ensures.most, c.loop-i-test.true)

pub returns-clause-each : goal.returns-clause-each
returns-clause-each g c = λ i old new at_first at_now.
    let within = slice_get_within c.args.watchers.now.items i old at_first in
    c.loop-i.invariant.each i old new (omega (arith, within)) at_first at_now

pub returns-clause-whole : goal.returns-clause-whole
returns-clause-whole g c = λ no_failure no_want i old new at_first at_now.
    let within = slice_get_within c.args.watchers.now.items i old at_first in
    Progress-whole _ _ _ _ _ _ _ _ c.loop-i.invariant no_failure no_want i old new (omega (arith, within)) at_first at_now

pub returns-clause-faultless : goal.returns-clause-faultless
returns-clause-faultless g c = λ no_want i old new at_first at_now.
    let within = slice_get_within c.args.watchers.now.items i old at_first in
    Progress-faultless _ _ _ _ _ _ _ _ c.loop-i.invariant no_want i old new (omega (arith, within)) at_first at_now

pub returns-clause-cause : goal.returns-clause-cause
returns-clause-cause g c = Progress-cause _ _ _ _ _ _ _ _ c.loop-i.invariant
