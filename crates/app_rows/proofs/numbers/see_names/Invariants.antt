use Rattle.std.proofs.Common.{◌≡◌, ◌≤◌, ◌+◌, length, map, drop}
use Rattle.app_rows.specs.Numbers.{with_new}
use Rattle.app_rows.proofs.numbers.see_names.Given as goal

abbrev pub invariant-loop-s : goal.invariant-loop-s
invariant-loop-s l = (with_new l.names (map (λ v. v.items) (drop l.s l.strings)) ≡ with_new l.initial.names (map (λ v. v.items) l.strings)) × (length l.names ≤ length l.initial.names + l.s)
