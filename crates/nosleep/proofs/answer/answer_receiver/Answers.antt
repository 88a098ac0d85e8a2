use Rattle.std.proofs.Common.{map}
use Rattle.nosleep.specs.Words.{Receiver}
use Rattle.nosleep.proofs.Outcomes.{judged_form, refused_form}
use Rattle.nosleep.proofs.answer.answer_receiver.Goals as goal

pub returns-in-Subject : goal.returns-in-Subject
returns-in-Subject c = λ dex.
    let comes = rw c.in-Subject.is at c.in_ok-subject.ensures in
    judged_form (Receiver dex c.args.class.now) (map (λ v. v.items) c.args.files.now) _ c.judge.result (rw c.in_ok-listed.ensures.is at comes) c.judge.ensures.judged c.judge.ensures.found

pub returns : goal.returns
returns c = λ dex.
    let comes = rw c.in-Refused.is at c.in_ok-subject.ensures in
    refused_form (Receiver dex c.args.class.now) (map (λ v. v.items) c.args.files.now) c.with_none.result c.in-Refused.answer c.with_none.ensures.answer c.with_none.ensures.none
    comes.0 (rw c.in_ok-listed.ensures.is at comes.1) comes.2
