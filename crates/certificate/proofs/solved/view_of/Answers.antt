use Rattle.std.proofs.Common.{ℕ, ◌^◌, ◌<◌, ap, rules}
use Rattle.cert_line.specs.declared.rows.ViewRow.{ViewRow}
use Rattle.certificate.proofs.Bits.{mask_is}
use Rattle.certificate.proofs.solved.view_of.Goals as goal

pub returns : goal.returns
returns c =
    let fits : c.view.result < 2 ^ 8 = search rules in
    ap (λ (m : ℕ). let v : ViewRow = record { component = c.args.component.0; state = c.args.state; mask = m } in v) (mask_is c.view.result _ fits c.view.ensures)
