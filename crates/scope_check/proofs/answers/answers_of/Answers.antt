use Rattle.scope_check.specs.Answering.{MethodHas}
use Rattle.scope_check.proofs.AnswerLaws.{method_told}
use Rattle.scope_facts.proofs.BitLaws.{none_below, one_more_below}
use Rattle.scope_check.proofs.answers.answers_of.Goals as goal

pub loop-k-init : goal.loop-k-init
loop-k-init c = none_below (MethodHas c.args.below.now c.args.methods.now)

pub loop-k-preserved : goal.loop-k-preserved
loop-k-preserved c =
    one_more_below (MethodHas c.args.below.now c.args.methods.now) c.loop-k.k c.loop-k.mask c.word_at-mask.result c.loop-k.invariant
    (method_told c.args.below.now c.args.methods.now c.loop-k.k _ c.word_at-mask.result c.loop-k-test.true c.word_at-mask.ensures)
