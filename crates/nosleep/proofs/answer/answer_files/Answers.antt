use Rattle.std.proofs.Common.{map, string_bytes, ap}
use Rattle.nosleep.specs.Asked.{form_by}
use Rattle.nosleep.proofs.Answering.{small_beside, small_rest}
use Rattle.nosleep.proofs.Outcomes.{check_form, verify_form}
use Rattle.nosleep.proofs.answer.answer_files.Goals as goal

pub returns-in-Receiver : goal.returns-in-Receiver
returns-in-Receiver c = rw c.in-Receiver.is (c.answer_receiver.ensures c.in-Receiver.dex.now)

pub answer_verify-requires-clause-short : goal.answer_verify-requires-clause-short
answer_verify-requires-clause-short c =
    small_rest c.in-Some.list.now c.in-Some.dex.now c.args.files.now c.in-Some.ensures.cases.0 (rw c.in-Verify.is at c.requires.short)

pub answer_check-requires-clause-short : goal.answer_check-requires-clause-short
answer_check-requires-clause-short c =
    small_rest c.in-Some-split_first-2.list.now c.in-Some-split_first-2.dex.now c.in-Some-split_first.files.now c.in-Some-split_first-2.ensures.cases.0
    (small_beside c.in-Check.cert.now c.in-Check.list.now (map string_bytes c.in-Check.files.now) c.in-Some-split_first.cert.now c.in-Some-split_first.files.now c.args.files.now
    c.in-Some-split_first.ensures.cases.0 (rw c.in-Check.is at c.requires.short))

pub returns-in-Some : goal.returns-in-Some
returns-in-Some c =
    verify_form (form_by c.args.asked) c.args.files.now c.in-Some.list.now c.in-Some.dex.now c.deref.result.now c.in-Verify.list.now (map string_bytes c.in-Verify.files.now) c.answer_verify.result
    (ap form_by c.in-Verify.is) c.in-Some.ensures.cases.0 c.deref.ensures.value (c.answer_verify.ensures c.in-Verify.list.now (map string_bytes c.in-Verify.files.now))

pub returns-in-Some-split_first-2 : goal.returns-in-Some-split_first-2
returns-in-Some-split_first-2 c =
    check_form (form_by c.args.asked) c.args.files.now c.in-Some-split_first.cert.now c.in-Some-split_first-2.list.now c.in-Some-split_first.files.now c.in-Some-split_first-2.dex.now
    c.deref-in-Some-split_first-2.result.now c.deref-in-Some-split_first-2-2.result.now c.in-Check.cert.now c.in-Check.list.now (map string_bytes c.in-Check.files.now) c.answer_check.result
    (ap form_by c.in-Check.is) c.in-Some-split_first.ensures.cases.0 c.in-Some-split_first-2.ensures.cases.0 c.deref-in-Some-split_first-2.ensures.value c.deref-in-Some-split_first-2-2.ensures.value
    (c.answer_check.ensures c.in-Check.cert.now c.in-Check.list.now (map string_bytes c.in-Check.files.now))
