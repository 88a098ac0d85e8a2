use Rattle.std.proofs.Common.{◌^◌, ◌<◌, rules}
use Rattle.certificate.proofs.Bits.{row_there, row_some}
use Rattle.certificate.proofs.solved.has_row.Goals as goal

pub returns : goal.returns
returns c =
    let fits : c.row_of.result < 2 ^ 8 = search rules in
    (row_there c.args.facts c.args.entry c.row_of.result fits c.row_of.ensures, row_some c.args.facts c.args.entry c.row_of.result c.row_of.ensures)
