use Rattle.std.proofs.Common.{◌≡◌, ℕ, Some, ap, arith, slice_get, ◌∙◌}
use Rattle.std.proofs.lemmas.Option.{slice_get_within}
use Rattle.app_model.specs.Components.{ComponentParts}
use Rattle.scope_check.specs.Answering.{RowHas}
use Rattle.scope_facts.specs.Bits.{Tells}
use Rattle.scope_check.proofs.AnswerLaws.{row_answered}
use Rattle.scope_facts.proofs.Rows.{row_more}
use Rattle.scope_check.proofs.answers.answer_rows.Goals as goal

pub loop-c-preserved : goal.loop-c-preserved
loop-c-preserved c =
    let methods = c.deref.ensures.value ∙ ap (λ (row : ComponentParts). row.methods) c.row.view_is in
    record {
      len = omega (arith, c.in_ok-push.ensures.len, c.loop-c.invariant.len);
      each = row_more (λ (k word : ℕ). (component : ComponentParts) → slice_get c.args.rows.now k ≡ Some component → Tells word (RowHas c.args.below.now component)) c.loop-c.answers.items c.push.new.self.items c.loop-c.c c.answers_of.result c.loop-c.invariant.len c.in_ok-push.ensures.items c.loop-c.invariant.each
          (λ component. row_answered c.args.rows.now c.loop-c.c c.index-rows-c.result component c.args.below.now c.deref.result.now c.answers_of.result c.loop-c-test.true c.index-rows-c.is methods c.answers_of.ensures);
    }

pub returns : goal.returns
returns c = record {
  len = omega (arith, c.loop-c.invariant.len, c.loop-c-test.false, c.loop-c.auto.c-end);
  each = λ k component there. c.loop-c.invariant.each k 0 (let low = slice_get_within c.args.rows.now k component there in omega (arith, low, c.loop-c-test.false)) component there;
}
