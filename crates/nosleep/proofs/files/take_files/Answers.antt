use Rattle.std.proofs.Common.{rules, refl, [], ◌∷◌, map, ap, ◌∙◌, sym, arith, length, ◌≡◌, Some}
use Rattle.std.proofs.lemmas.List.{map-append}
use Rattle.std.proofs.lemmas.Option.{slice_get_read}
use Rattle.nosleep.specs.Events.{reads_from}
use Rattle.nosleep.specs.Words.{FileName}
use Rattle.nosleep.proofs.Taking.{keeps_next, next_read, none_read, none_taken, stops_failed, stops_long, takes_on}
use Rattle.nosleep.proofs.files.take_files.Goals as goal

pub loop-i-init : goal.loop-i-init
loop-i-init g c = record { told = none_read c.args.events.now c.new-all.result.items c.requires.none c.new-all.ensures.items; few = c.requires.few; taken = rw c.new-all.ensures.items (none_taken _ _); keeps = record { same = λ n. refl; later = omega arith } }

pub returns-in_err-bytes-clause-keeps : goal.returns-in_err-bytes-clause-keeps
returns-in_err-bytes-clause-keeps g c = keeps_next _ _ _ _ _ c.loop-i.invariant.keeps c.read_whole.ensures.keeps

pub returns-in_err-push-in-Whole-clause-keeps : goal.returns-in_err-push-in-Whole-clause-keeps
returns-in_err-push-in-Whole-clause-keeps g c = keeps_next _ _ _ _ _ c.loop-i.invariant.keeps c.read_whole.ensures.keeps

pub returns-in_err-push-in-Whole-2-clause-keeps : goal.returns-in_err-push-in-Whole-2-clause-keeps
returns-in_err-push-in-Whole-2-clause-keeps g c = keeps_next _ _ _ _ _ c.loop-i.invariant.keeps c.read_whole.ensures.keeps

pub returns-in-TooLong-clause-taken : goal.returns-in-TooLong-clause-taken
returns-in-TooLong-clause-taken g c =
    stops_long _ _ _ _ c.read_whole.new.shelf _ _ _ _ c.loop-i.invariant.keeps c.loop-i.invariant.taken (slice_get_read _ _ _ _ refl c.loop-i-test.true c.index-names-i.is ∙ ap (λ (f : FileName). Some f) (sym c.file.view_is)) _ c.loop-i.invariant.told (rw c.in-TooLong.is at c.in_ok-bytes.ensures.reading)

pub returns-in-TooLong-clause-keeps : goal.returns-in-TooLong-clause-keeps
returns-in-TooLong-clause-keeps g c = keeps_next _ _ _ _ _ c.loop-i.invariant.keeps c.read_whole.ensures.keeps

pub returns-in-Fault-clause-taken : goal.returns-in-Fault-clause-taken
returns-in-Fault-clause-taken g c =
    stops_failed _ _ _ _ _ _ _ _ _ c.loop-i.invariant.keeps c.loop-i.invariant.taken (slice_get_read _ _ _ _ refl c.loop-i-test.true c.index-names-i.is ∙ ap (λ (f : FileName). Some f) (sym c.file.view_is)) _ c.loop-i.invariant.told (rw c.in-Fault.is at c.in_ok-bytes.ensures.reading)

pub returns-in-Fault-clause-keeps : goal.returns-in-Fault-clause-keeps
returns-in-Fault-clause-keeps g c = keeps_next _ _ _ _ _ c.loop-i.invariant.keeps c.read_whole.ensures.keeps

pub loop-i-preserved : goal.loop-i-preserved
loop-i-preserved g c =
    let there = slice_get_read _ _ _ _ refl c.loop-i-test.true c.index-names-i.is ∙ ap (λ (f : FileName). Some f) (sym c.file.view_is) in
    let more = takes_on _ _ _ _ c.read_whole.new.shelf _ _ _ _ c.loop-i.invariant.keeps c.loop-i.invariant.taken there c.in-Whole.bytes.items (rw c.in-Whole.is at c.in_ok-bytes.ensures.reading) in
    let made = ap (λ xs. map (λ b. b.items) xs) c.in_ok-push-in-Whole-2.ensures.items ∙ map-append (λ b. b.items) c.loop-i.all.items (c.in-Whole.bytes ∷ []) in
    let next = next_read c.loop-i.events.items _ c.in-Whole.bytes.items _ _ c.loop-i.invariant.told (omega (arith, c.loop-i.invariant.taken.len)) (search rules) in
    record {
      taken = rw made more;
      told = c.in_ok-push-in-Whole.ensures.items ∙ next ∙ ap (λ xs. reads_from 0 xs) (sym made);
      few = c.loop-i.invariant.few;
      keeps = keeps_next _ _ _ _ _ c.loop-i.invariant.keeps c.read_whole.ensures.keeps;
    }

pub returns-clause-taken : goal.returns-clause-taken
returns-clause-taken g c = let end : c.loop-i.i ≡ length c.args.names.now = omega (arith, c.loop-i-test.false, c.loop-i.auto.i-end) in (rw (← end) c.loop-i.invariant.taken, c.loop-i.invariant.told)

pub returns-clause-keeps : goal.returns-clause-keeps
returns-clause-keeps g c = c.loop-i.invariant.keeps
