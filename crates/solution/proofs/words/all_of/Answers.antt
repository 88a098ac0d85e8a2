use Rattle.std.proofs.Common.{◌≡◌, true, arith}
use Rattle.solution.specs.Words.{has}
use Rattle.solution.proofs.Bits.{mask_none, mask_more, mask_end, mask_row, has_true}
use Rattle.solution.proofs.words.all_of.Goals as goal

pub loop-entry-init : goal.loop-entry-init
loop-entry-init c = mask_none _

pub loop-entry-preserved : goal.loop-entry-preserved
loop-entry-preserved c = mask_more (λ e t. has c.args.word e t ≡ true) _ _ _ c.loop-entry.invariant (mask_row _ _ _ c.row_of-out.ensures)

pub returns : goal.returns
returns c = mask_end (λ e t. has c.args.word e t ≡ true) _ _ (λ k t h. let p = (has_true c.args.word k t h).0 in omega (arith, c.loop-entry-test.false)) c.loop-entry.invariant
