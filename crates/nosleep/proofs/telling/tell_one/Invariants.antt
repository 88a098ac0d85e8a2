use Rattle.std.proofs.Common.{◌≡◌, ◌++◌, take, ◌≤◌}
use Rattle.nosleep.proofs.telling.tell_one.Given as goal

abbrev pub invariant-loop-event : goal.invariant-loop-event
invariant-loop-event g l =
    let now = goal.Watcher-dyn g (l.watcher.vtable, l.watcher.value) in
    let old = goal.Watcher-dyn g (l.initial.watcher.vtable, l.initial.watcher.value) in
    record {
      sort : now.sort l.watcher.value ≡ old.sort l.initial.watcher.value;
      told : now.events l.watcher.value ≡ old.events l.initial.watcher.value ++ take l.event-index l.all;
      later : old.faults l.initial.watcher.value ≤ now.faults l.watcher.value;
    }
