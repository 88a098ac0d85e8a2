use Rattle.std.proofs.Common.{◌≤◌, ◌∙◌, ap, sym, map, length, refl, arith}
use Rattle.std.proofs.lemmas.Option.{slice_get_within}
use Rattle.ns_base.specs.Answers.{limit_of}
use Rattle.ns_base.specs.declared.answers.Counted.TheVariants.{Files}
use Rattle.nosleep.specs.Asked.{form_by}
use Rattle.nosleep.specs.Words.{FileName, dex_names}
use Rattle.nosleep.proofs.Answering.{all_read, few_names, short_taken, stopped_failed, stopped_long, too_many}
use Rattle.nosleep.proofs.Judgements.{all_judged}
use Rattle.nosleep.proofs.answer.answer_form.Goals as goal

pub returns-then-dex_count-limit-clause-answer : goal.returns-then-dex_count-limit-clause-answer
returns-then-dex_count-limit-clause-answer g c = λ words asked.
    too_many words (g.F.Shelf.content c.args.shelf.now) (g.F.Shelf.faults c.args.shelf.now) (g.F.Shelf.faults c.args.shelf.now) (form_by c.args.asked) asked
    c.with_none.result _ c.with_none.ensures.answer c.with_none.ensures.none _ (omega (arith, c.dex_count.ensures, c.limit.ensures, c.if-dex_count-limit.true)) c.in_ok-over.ensures c.requires.none

pub take_files-requires-clause-few : goal.take_files-requires-clause-few
take_files-requires-clause-few g c =
    let few : length (dex_names (form_by c.args.asked)) ≤ limit_of Files = omega (arith, c.dex_count.ensures, c.limit.ensures, c.if-dex_count-limit.false) in
    let all = few_names (form_by c.args.asked) few in
    let same = ap length (c.deref.ensures.value ∙ c.in_ok-names.ensures) in
    omega (arith, all, same)

pub index-requires : goal.index-requires
index-requires g c =
    let stops = rw c.in-Fault.is at c.in_ok-i.ensures.taken in
    let within = slice_get_within c.deref.result.now c.in-Fault.i stops.file stops.there in
    let same = ap length c.deref.ensures.value in
    omega (arith, within, same)

pub returns-in-Fault-clause-answer : goal.returns-in-Fault-clause-answer
returns-in-Fault-clause-answer g c = λ words asked.
    let few : length (dex_names (form_by c.args.asked)) ≤ limit_of Files = omega (arith, c.dex_count.ensures, c.limit.ensures, c.if-dex_count-limit.false) in
    let stops = rw c.in-Fault.is at c.in_ok-i.ensures.taken in
    let file = rw (sym c.deref.ensures.value) at c.index.ensures in
    let wrote = rw (ap (λ (f : FileName). f.name) c.behind-names.view_is) at c.in_ok-text-in-Fault.ensures in
    stopped_failed words (g.F.Shelf.content c.args.shelf.now) (g.F.Shelf.faults c.args.shelf.now) (g.F.Shelf.faults c.take_files.new.shelf) (form_by c.args.asked) asked
    c.with_none-in-Fault.result _ c.with_none-in-Fault.ensures.answer c.with_none-in-Fault.ensures.none few c.deref.result.now (c.deref.ensures.value ∙ c.in_ok-names.ensures) c.in-Fault.i c.index.result.now _ stops file wrote refl

pub index-requires-in-TooLong : goal.index-requires-in-TooLong
index-requires-in-TooLong g c =
    let stops = rw c.in-TooLong.is at c.in_ok-i.ensures.taken in
    let within = slice_get_within c.deref.result.now c.in-TooLong.i stops.file stops.there in
    let same = ap length c.deref.ensures.value in
    omega (arith, within, same)

pub returns-in-TooLong-clause-answer : goal.returns-in-TooLong-clause-answer
returns-in-TooLong-clause-answer g c = λ words asked.
    let few : length (dex_names (form_by c.args.asked)) ≤ limit_of Files = omega (arith, c.dex_count.ensures, c.limit.ensures, c.if-dex_count-limit.false) in
    let stops = rw c.in-TooLong.is at c.in_ok-i.ensures.taken in
    let file = rw (sym c.deref.ensures.value) at c.index-in-TooLong.ensures in
    let over = rw (ap (λ (f : FileName). f.limit) c.behind-names-in-TooLong.view_is) at c.in_ok-over-in-TooLong.ensures in
    stopped_long words (g.F.Shelf.content c.args.shelf.now) (g.F.Shelf.faults c.args.shelf.now) (g.F.Shelf.faults c.take_files.new.shelf) (form_by c.args.asked) asked
    c.with_none-in-TooLong.result _ c.with_none-in-TooLong.ensures.answer c.with_none-in-TooLong.ensures.none few c.deref.result.now (c.deref.ensures.value ∙ c.in_ok-names.ensures) c.in-TooLong.i c.index-in-TooLong.result.now _ stops file over

pub answer_files-requires-clause-short : goal.answer_files-requires-clause-short
answer_files-requires-clause-short g c =
    let taken = rw c.in-Whole.is at c.in_ok-i.ensures.taken in
    let short = short_taken (g.F.Shelf.content c.args.shelf.now) (form_by c.args.asked) c.deref.result.now c.in-Whole.files.items (c.deref.ensures.value ∙ c.in_ok-names.ensures) taken.0 in
    rw c.deref-in-Whole.ensures.value short

pub returns-clause-answer : goal.returns-clause-answer
returns-clause-answer g c = λ words asked.
    let few : length (dex_names (form_by c.args.asked)) ≤ limit_of Files = omega (arith, c.dex_count.ensures, c.limit.ensures, c.if-dex_count-limit.false) in
    let taken = rw c.in-Whole.is at c.in_ok-i.ensures.taken in
    let outcome = rw c.deref-in-Whole.ensures.value at c.answer_files.ensures in
    all_read words (g.F.Shelf.content c.args.shelf.now) (g.F.Shelf.faults c.args.shelf.now) (g.F.Shelf.faults c.take_files.new.shelf)
    (form_by c.args.asked) c.deref.result.now (map (λ v. v.items) c.in-Whole.files.items) c.answer_files.result _ asked few (c.deref.ensures.value ∙ c.in_ok-names.ensures) taken.0 taken.1 outcome

pub returns-clause-judged : goal.returns-clause-judged
returns-clause-judged g c = all_judged (form_by c.args.asked) _ c.answer_files.result c.answer_files.ensures
