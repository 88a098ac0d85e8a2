use Rattle.std.proofs.Common.{arith, ◌&&◌}
use Rattle.app_model.specs.Masks.{in_mask}
use Rattle.cert_facts.proofs.Sought.{walk_row}
use Rattle.cert_facts.specs.Rows.{mask_of}
use Rattle.cert_facts.specs.Sets.{is_of_entry}
use Rattle.cert_facts.proofs.rows.body_mask.Goals as goal

pub loop-row-preserved : goal.loop-row-preserved
loop-row-preserved c = λ s. walk_row (λ row. is_of_entry c.args.method c.args.entry row && in_mask (mask_of c.args.which row) s) c.args.rows.now c.loop-row.row-index _ _ s _ (omega (arith, c.loop-row-test.true)) (c.loop-row.invariant s) c.row-item.is (c.body_part-mask.ensures s)
