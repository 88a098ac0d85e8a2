use Rattle.std.proofs.Common.{◌≡◌, drop}
use Rattle.app_link.specs.LinkFaults.{code_fault_from}
use Rattle.app_link.proofs.code_checks.find_code_fault.Given as goal

abbrev pub invariant-loop-n : goal.invariant-loop-n
invariant-loop-n l = code_fault_from l.wrong l.n (drop l.n l.files) ≡ code_fault_from l.wrong 0 l.files
