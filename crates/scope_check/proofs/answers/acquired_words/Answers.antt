use Rattle.std.proofs.Common.{ℕ, arith}
use Rattle.scope_check.specs.Answering.{AcquiresIn}
use Rattle.scope_facts.specs.Bits.{Tells}
use Rattle.scope_facts.proofs.Rows.{row_more}
use Rattle.scope_check.proofs.answers.acquired_words.Goals as goal

pub loop-method-preserved : goal.loop-method-preserved
loop-method-preserved c = record {
  len = omega (arith, c.in_ok-push.ensures.len, c.loop-method.invariant.len);
  each = row_more (λ (m word : ℕ). Tells word (AcquiresIn c.args.survey.now m)) c.loop-method.words.items c.push.new.self.items c.loop-method.method c.acquired_word.result c.loop-method.invariant.len c.in_ok-push.ensures.items c.loop-method.invariant.each c.acquired_word.ensures;
}

pub returns : goal.returns
returns c = record {
  len = omega (arith, c.loop-method.invariant.len, c.loop-method-test.false, c.method_count-method-end.ensures, c.loop-method.auto.method-end);
  each = λ m low. c.loop-method.invariant.each m 0 (omega (arith, low, c.loop-method-test.false, c.method_count-method-end.ensures));
}
