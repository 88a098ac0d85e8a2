use Rattle.std.proofs.Common.{◌≡◌, ◌≤◌, ◌*◌, ◌^◌, take, sum_by}
use Rattle.dex_file.specs.Content.{FileContent}
use Rattle.app_link.proofs.limits.find_units_fault.Given as goal

abbrev pub invariant-loop-n : goal.invariant-loop-n
invariant-loop-n l = (l.units ≡ sum_by (λ (file : FileContent). file.units) (take l.n l.files)) × (l.units ≤ l.n * 2 ^ 64)
