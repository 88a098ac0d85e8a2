use Rattle.std.proofs.Common.{◌≡◌, ◌++◌, map, drop}
use Rattle.app_rows.specs.Linked.{locks_from}
use Rattle.app_rows.proofs.making.find_locks.Given as goal

abbrev pub invariant-loop-f : goal.invariant-loop-f
invariant-loop-f l = l.locks.items ++ locks_from (map (λ v. v.items) l.types) l.f (drop l.f l.fields) ≡ locks_from (map (λ v. v.items) l.types) 0 l.fields
