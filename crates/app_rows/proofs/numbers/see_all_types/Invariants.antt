use Rattle.std.proofs.Common.{◌≡◌, ◌≤◌, ◌*◌, length, drop, fold}
use Rattle.app_rows.specs.Numbers.{with_new, type_texts, types_in}
use Rattle.app_rows.proofs.numbers.see_all_types.Given as goal

abbrev pub invariant-loop-n : goal.invariant-loop-n
invariant-loop-n l = (fold (λ seen file. with_new seen (type_texts file)) l.types (drop l.n l.files) ≡ types_in l.files) × (length l.types ≤ 8388608 * l.n)
