use Rattle.std.proofs.Common.{◌∷◌, map}
use Rattle.nosleep.specs.Words.{Verify}
use Rattle.nosleep.proofs.Outcomes.{judged_form, refused_form}
use Rattle.nosleep.proofs.answer.answer_verify.Goals as goal

pub returns-in-Subject : goal.returns-in-Subject
returns-in-Subject c = λ one dex.
    judged_form (Verify one dex) (c.args.list.now ∷ map (λ v. v.items) c.args.files.now) _ c.certify.result (rw c.in-Subject.is at c.in_ok-subject.ensures) c.certify.ensures.judged c.certify.ensures.found

pub returns-in-Refused : goal.returns-in-Refused
returns-in-Refused c = λ one dex.
    let comes = rw c.in-Refused.is at c.in_ok-subject.ensures in
    refused_form (Verify one dex) (c.args.list.now ∷ map (λ v. v.items) c.args.files.now) c.with_none.result c.in-Refused.answer c.with_none.ensures.answer c.with_none.ensures.none comes.0 comes.1 comes.2
