use Rattle.std.proofs.Common.{◌≡◌, ◌≤◌, ◌*◌, ◌^◌, sum_by, take}
use Rattle.dex_file.specs.Sizes.{members_of}
use Rattle.app_link.proofs.tests.count_members.Given as goal

abbrev pub invariant-loop-c : goal.invariant-loop-c
invariant-loop-c l = (l.count ≡ sum_by members_of (take l.c l.classes)) × (l.count ≤ l.c * 2 ^ 66)
