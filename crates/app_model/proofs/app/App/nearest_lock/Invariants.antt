use Rattle.std.proofs.Common.{◌≡◌, ◌-◌, length, option_map}
use Rattle.ns_base.specs.declared.rows.ClassNo.{ClassNo}
use Rattle.app_model.specs.Hierarchy.{line, lock_in, lock_of, nearest}
use Rattle.app_model.proofs.app.App.nearest_lock.Given as goal

-- the lock is the one that is found from the class reached
abbrev pub invariant-loop-step : goal.invariant-loop-step
invariant-loop-step l =
    lock_of l.self l.fn.kind.0 l.name.0
    ≡ nearest (lock_in l.self l.name.0) (line l.self.classes (length l.self.classes - l._step) (option_map (λ (c : ClassNo). c.0) l.class))
