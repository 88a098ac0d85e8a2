use Rattle.std.proofs.Common.{arith, ◌∙◌, [], refl}
use Rattle.derivation.proofs.Down.{served_past}
use Rattle.derivation.proofs.marking.mark_views.Goals as goal

pub loop-k-init : goal.loop-k-init
loop-k-init c = record {
  low = omega arith;
  served = λ lines size. served_past lines _ _ _ _ (omega arith);
  kept_views = λ n m. m;
  kept_lines = λ n m. m;
  len_views = c.requires;
  len_lines = refl;
}

pub loop-k-preserved : goal.loop-k-preserved
loop-k-preserved c =
    let inv = c.loop-k.invariant in
    let any = c.mark_view.ensures [] in
    record {
      low = omega (arith, inv.low);
      served = λ lines size. (c.mark_view.ensures lines).served (record { of_views = inv.len_views; of_lines = inv.len_lines ∙ size }) (λ t l log j v le. inv.served lines size t l log j v (omega (arith, le, c.loop-k-test.true)));
      kept_views = λ n m. any.kept_views n (inv.kept_views n m);
      kept_lines = λ n m. any.kept_lines n (inv.kept_lines n m);
      len_views = any.len_views ∙ inv.len_views;
      len_lines = any.len_lines ∙ inv.len_lines;
    }

pub returns : goal.returns
returns c = λ lines size.
    (let inv = c.loop-k.invariant in
    record {
      served = λ t l log j v le. inv.served lines size t l log j v (omega (arith, c.loop-k-test.false));
      kept_views = inv.kept_views;
      kept_lines = inv.kept_lines;
      len_lines = inv.len_lines;
    })
