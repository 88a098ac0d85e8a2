use Rattle.std.proofs.Common.{arith}
use Rattle.cert_check.proofs.FirstPlaces.{pc_some, pc_none}
use Rattle.cert_check.proofs.Searches.{none_more}
use Rattle.cert_check.proofs.places.first_pc.Goals as goal

pub returns-then-is_out : goal.returns-then-is_out
returns-then-is_out c = pc_some c.args.rule c.args.entered.now.case c.told.ensures.case c.requires _ _ _ c.loop-index.invariant _ _ c.pc.ensures c.is_out.ensures c.if-is_out.true

pub loop-index-preserved : goal.loop-index-preserved
loop-index-preserved c = none_more _ _ _ c.loop-index.invariant c.is_out.ensures c.if-is_out.false

pub returns : goal.returns
returns c = pc_none c.args.rule c.args.entered.now.case c.told.ensures.case c.requires _ _ _ c.loop-index.invariant (omega (arith, c.loop-index-test.false, c.code_len-index-end.ensures))
