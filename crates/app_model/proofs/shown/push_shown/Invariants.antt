use Rattle.std.proofs.Common.{◌≡◌, ◌++◌, take}
use Rattle.app_model.specs.Shown.{shown}
use Rattle.app_model.proofs.shown.push_shown.Given as goal

abbrev pub invariant-loop-byte : goal.invariant-loop-byte
invariant-loop-byte l = l.text.items ≡ l.initial.text.items ++ shown (take l.byte-index l.name)
