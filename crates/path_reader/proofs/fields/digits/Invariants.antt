use Rattle.std.proofs.Common.{◌≡◌, drop}
use Rattle.cert_line.specs.Reading.{number_from}
use Rattle.path_reader.proofs.fields.digits.Given as goal

abbrev pub invariant-loop-digit : goal.invariant-loop-digit
invariant-loop-digit l = number_from l.value (drop l.digit-index l.field) ≡ number_from 0 l.field
