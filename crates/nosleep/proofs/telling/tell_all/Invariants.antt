use Rattle.watchers.specs.Telling.{seen}
use Rattle.watchers.proofs.Numbers.{Progress}
use Rattle.nosleep.proofs.telling.tell_all.Given as goal

abbrev pub invariant-loop-i : goal.invariant-loop-i
invariant-loop-i g l =
    Progress (λ w. (let m = goal.Watcher-dyn g (w.vtable, w.value) in seen (m.sort w.value) (m.events w.value) (m.faults w.value)))
    l.kinds l.all l.initial.watchers.items l.watchers.items l.i l.told.failed l.told.starved
