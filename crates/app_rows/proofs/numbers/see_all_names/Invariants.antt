use Rattle.std.proofs.Common.{◌≡◌, ◌≤◌, ◌*◌, length, drop, fold}
use Rattle.app_rows.specs.Numbers.{with_new, names_in}
use Rattle.app_rows.proofs.numbers.see_all_names.Given as goal

abbrev pub invariant-loop-n : goal.invariant-loop-n
invariant-loop-n l = (fold (λ seen file. with_new seen file.strings) l.names (drop l.n l.files) ≡ names_in l.files) × (length l.names ≤ 8388608 * l.n)
