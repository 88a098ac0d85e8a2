use Rattle.nosleep.proofs.Alike.{least_over, tagged_over, violations_over}
use Rattle.nosleep.proofs.Told.{all_safe, told_answer, told_helds}
use Rattle.nosleep.proofs.judging.judge.Goals as goal

pub returns-clause-judged : goal.returns-clause-judged
returns-clause-judged c =
    told_answer _ c.in-Ok.found.items _ _
    (λ y alike.
    let tagged = tagged_over _ y c.told.ensures alike in
    let are = violations_over _ y alike c.in-Ok.found.items c.in-Ok.ensures.exact in
    (are, all_safe y c.in-Ok.found.items are (least_over _ y alike c.in-Ok.ensures.least) (λ l set. c.tagged_soundness.ensures.runs y l set tagged) (λ l set. c.tagged_soundness.ensures.counts y l set tagged)))
    (rw c.deref.ensures.value at c.in_ok-answer.ensures)

pub returns-clause-found : goal.returns-clause-found
returns-clause-found c =
    told_helds _ c.in-Ok.found.items _ _ (λ y alike. violations_over _ y alike c.in-Ok.found.items c.in-Ok.ensures.exact) (rw c.deref.ensures.value at c.in_ok-answer.ensures)
