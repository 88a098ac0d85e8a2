use Rattle.std.proofs.Common.{◌∷◌, map}
use Rattle.nosleep.specs.Words.{Check}
use Rattle.nosleep.proofs.Outcomes.{checked_form, no_report, refused_form}
use Rattle.nosleep.proofs.answer.answer_check.Goals as goal

pub returns-in_ok-answer-in-Subject : goal.returns-in_ok-answer-in-Subject
returns-in_ok-answer-in-Subject c = λ one two dex.
    let files = map (λ v. v.items) c.args.files.now in
    checked_form (Check one two dex) (c.args.cert.now ∷ c.args.list.now ∷ files) c.with_none.result c.in_ok-answer-in-Subject.answer c.with_none.ensures.answer c.with_none.ensures.none
    _ (rw c.in-Subject.is at c.in_ok-subject.ensures) c.in_ok-answer-in-Subject.ensures (λ y alike. no_report c.args.cert.now c.args.list.now files y _ _ (c.in_ok-answer-in-Subject.ensures y alike))

pub returns-in-Refused : goal.returns-in-Refused
returns-in-Refused c = λ one two dex.
    let comes = rw c.in-Refused.is at c.in_ok-subject.ensures in
    refused_form (Check one two dex) (c.args.cert.now ∷ c.args.list.now ∷ map (λ v. v.items) c.args.files.now) c.with_none-in-Refused.result c.in-Refused.answer
    c.with_none-in-Refused.ensures.answer c.with_none-in-Refused.ensures.none comes.0 comes.1 comes.2
