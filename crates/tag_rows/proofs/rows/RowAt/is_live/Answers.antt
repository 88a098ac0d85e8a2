use Rattle.std.proofs.Common.{arith, refl}
use Rattle.std.proofs.lemmas.Bool.{false≢true}
use Rattle.tag_rows.proofs.Plain.{live_at, none_live}
use Rattle.tag_rows.proofs.rows.RowAt.is_live.Goals as goal

pub returns-then-cells-register-ne0 : goal.returns-then-cells-register-ne0
returns-then-cells-register-ne0 c =
    (λ _. live_at _ _ c.loop-register-test.true c.if-cells-register-ne0.true, λ _. refl)

pub returns : goal.returns
returns c =
    (λ t. absurd (false≢true t), λ live. absurd (none_live _ (λ r lt. c.loop-register.invariant r (omega (arith, lt, c.loop-register-test.false))) live))
