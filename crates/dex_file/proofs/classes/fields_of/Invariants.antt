use Rattle.std.proofs.Common.{◌≡◌, map, take}
use Rattle.dex_file.specs.Content.{field_of}
use Rattle.dex_file.proofs.classes.fields_of.Given as goal

abbrev pub invariant-loop-member : goal.invariant-loop-member
invariant-loop-member l = l.fields.items ≡ map field_of (take l.member-index l.members)
