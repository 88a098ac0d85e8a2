use Rattle.std.proofs.Common.{◌≡◌, map, take}
use Rattle.app_rows.specs.Linked.{named_field}
use Rattle.app_rows.proofs.rows.name_fields.Given as goal

abbrev pub invariant-loop-id : goal.invariant-loop-id
invariant-loop-id l = l.fields.items ≡ map (named_field l.numbers) (take l.id-index l.ids)
