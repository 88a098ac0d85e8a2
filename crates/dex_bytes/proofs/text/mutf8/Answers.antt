use Rattle.std.proofs.Common.{◌∙◌}
use Rattle.dex_bytes.proofs.Texts.{text_end_more}
use Rattle.dex_bytes.proofs.text.mutf8.Goals as goal

pub loop-i-preserved : goal.loop-i-preserved
loop-i-preserved c = text_end_more _ _ _ _ _ _ c.loop-i-test.true c.in-More.ensures ∙ c.loop-i.invariant
