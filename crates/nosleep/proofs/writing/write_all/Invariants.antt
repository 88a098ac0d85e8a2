use Rattle.std.proofs.Common.{length, take, ◌-◌, ◌≤◌}
use Rattle.watchers.specs.Writing.{WroteAll}
use Rattle.nosleep.proofs.writing.write_all.Given as goal

abbrev pub invariant-loop-done : goal.invariant-loop-done
invariant-loop-done g l = record {
  within : l.done ≤ length l.text;
  later : g.K.Sink.faults l.initial.out ≤ g.K.Sink.faults l.out;
  wrote : WroteAll (g.K.Sink.taken l.initial.out) (g.K.Sink.taken l.out) (take l.done l.text);
}

abbrev pub decreases-loop-done : goal.decreases-loop-done
decreases-loop-done g l = length l.text - l.done
