use Rattle.std.proofs.Common.{arith, ◌&&◌}
use Rattle.app_model.specs.Masks.{in_mask}
use Rattle.cert_facts.proofs.Sought.{walk_more}
use Rattle.cert_facts.specs.Sets.{is_of_state}
use Rattle.cert_facts.proofs.rows.view_mask.Goals as goal

pub loop-row-preserved : goal.loop-row-preserved
loop-row-preserved c = λ s. walk_more (λ row. is_of_state c.args.component c.args.state row && in_mask row.mask s) c.args.rows.now c.loop-row.row-index _ _ s _ (omega (arith, c.loop-row-test.true)) (c.loop-row.invariant s) (c.view_part-mask.ensures s)
