use Rattle.std.proofs.Common.{arith}
use Rattle.solution.specs.Words.{Leads}
use Rattle.solution.proofs.Bits.{mask_none, mask_more, mask_end, has_true}
use Rattle.solution.proofs.words.lead.Goals as goal

pub loop-status-init : goal.loop-status-init
loop-status-init c = mask_none _

pub loop-status-preserved : goal.loop-status-preserved
loop-status-preserved c = mask_more (Leads c.args.mask c.args.word) _ _ _ c.loop-status.invariant c.lead_one-out.ensures

pub returns : goal.returns
returns c = mask_end (Leads c.args.mask c.args.word) _ _ (λ k t h. let p = (has_true c.args.word k t h.1).0 in omega (arith, c.loop-status-test.false)) c.loop-status.invariant
