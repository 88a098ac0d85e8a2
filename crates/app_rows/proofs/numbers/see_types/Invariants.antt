use Rattle.std.proofs.Common.{◌≡◌, ◌≤◌, ◌+◌, length, map, drop}
use Rattle.app_rows.specs.Numbers.{with_new, string_at, type_texts}
use Rattle.app_rows.proofs.numbers.see_types.Given as goal

abbrev pub invariant-loop-t : goal.invariant-loop-t
invariant-loop-t l = (with_new l.types (map (string_at l.file) (drop l.t l.file.types)) ≡ with_new l.initial.types (type_texts l.file)) × (length l.types ≤ length l.initial.types + l.t)
