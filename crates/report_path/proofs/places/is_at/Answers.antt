use Rattle.std.proofs.Common.{arith}
use Rattle.report_path.proofs.Pcs.{pc_within}
use Rattle.report_path.proofs.Tests.{denied}
use Rattle.report_path.proofs.places.is_at.Goals as goal

pub returns-then-index-code_len : goal.returns-then-index-code_len
returns-then-index-code_len c = denied (λ at. (let lt = pc_within _ _ _ _ at in let past = c.if-index-code_len.true in let len = c.code_len.ensures in absurd (omega arith))) (λ at. at)
