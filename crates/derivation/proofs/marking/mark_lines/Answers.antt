use Rattle.std.proofs.Common.{arith, ◌∙◌}
use Rattle.derivation.proofs.marking.mark_lines.Goals as goal

pub loop-k-preserved : goal.loop-k-preserved
loop-k-preserved c =
    let inv = c.loop-k.invariant in
    record {
      low = omega (arith, inv.low);
      settled = c.mark_line.ensures.settled inv.len (λ t l led j x le. inv.settled t l led j x (omega (arith, le, c.loop-k-test.true)));
      kept = λ n m. c.mark_line.ensures.kept n (inv.kept n m);
      len = c.mark_line.ensures.len ∙ inv.len;
    }

pub returns : goal.returns
returns c = record { settled = λ t l led j x le. c.loop-k.invariant.settled t l led j x (omega (arith, c.loop-k-test.false)); kept = c.loop-k.invariant.kept }
