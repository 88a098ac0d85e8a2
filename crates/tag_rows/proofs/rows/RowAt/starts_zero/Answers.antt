use Rattle.std.proofs.Common.{arith}
use Rattle.tag_rows.proofs.Plain.{zero_at}
use Rattle.tag_rows.proofs.rows.RowAt.starts_zero.Goals as goal

pub returns : goal.returns
returns c =
    λ all r lt. zero_at _ r (omega (arith, lt, c.requires)) (c.loop-register.invariant all r (omega (arith, lt, c.loop-register-test.false)))
