use Rattle.std.proofs.Common.{arith}
use Rattle.flow_model.proofs.MaskLaws.{IsIn-lt}
use Rattle.solution.proofs.Bits.{mask_more, mask_end}
use Rattle.cert_check.proofs.Unmet.{leads_all}
use Rattle.cert_check.proofs.policy.lead.Goals as goal

pub loop-status-preserved : goal.loop-status-preserved
loop-status-preserved c = mask_more _ _ _ _ c.loop-status.invariant c.lead_one-mask.ensures

pub returns : goal.returns
returns c = leads_all c.args.task.now _ 0 _ _ _ c.view-seen.ensures (mask_end _ _ _ (λ s u z. (let low = IsIn-lt c.view-seen.result s z.0 in omega (arith, low, c.loop-status-test.false))) c.loop-status.invariant)
