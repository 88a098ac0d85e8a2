use Rattle.std.proofs.Common.{◌≡◌, ◌≤◌, ◌*◌, length, drop, fold}
use Rattle.app_rows.specs.Numbers.{with_new, protos_of, protos_in}
use Rattle.app_rows.proofs.numbers.see_all_protos.Given as goal

abbrev pub invariant-loop-n : goal.invariant-loop-n
invariant-loop-n l = (fold (λ seen file. with_new seen (protos_of l.types file)) l.protos (drop l.n l.files) ≡ protos_in l.types l.files) × (length l.protos ≤ 8388608 * l.n)
