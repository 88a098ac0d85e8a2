use Rattle.std.proofs.Common.{◌≡◌, map, take}
use Rattle.app_rows.specs.Linked.{named}
use Rattle.app_rows.proofs.rows.name_methods.Given as goal

abbrev pub invariant-loop-id : goal.invariant-loop-id
invariant-loop-id l = l.methods.items ≡ map (named l.numbers) (take l.id-index l.ids)
