use Rattle.std.proofs.Common.{◌≡◌, [], map, string_bytes, refl, inl, inr, ◌∙◌, sym, arith}
use Rattle.ns_base.specs.declared.answers.Exit.TheVariants as exits
use Rattle.nosleep.specs.Answer.{IsEnd, starved}
use Rattle.nosleep.proofs.Judgements.{accepted, exact_of, judged_exit, none_chosen, not_after, read_cause}
use Rattle.nosleep.proofs.Pieces.{WroteAll-none}
use Rattle.nosleep.proofs.Watching.{all_same, exact_end, fault_cause, judged_end, never_other, own_exit, told_by, unchosen, untouched}
use Rattle.nosleep.proofs.top.nosleep.Goals as goal

pub returns-in-Err-clause-answer : goal.returns-in-Err-clause-answer
returns-in-Err-clause-answer g c = (exits.Memory, [], [], starved, IsEnd.written (WroteAll-none _) (untouched _ _ _))

pub returns-in-Ok-write_all-clause-answer : goal.returns-in-Ok-write_all-clause-answer
returns-in-Ok-write_all-clause-answer g c =
    let wrote = rw c.deref.ensures.value at c.in-Ok-write_all.ensures.ok in
    let told = told_by _ _ _ _ _ _ _ _ (c.kinds_by.ensures ∙ c.in-Ok.ensures.kinds) c.deref-in-Ok-write_all.ensures.value c.tell.ensures.told in
    (c.in-Ok.outcome.answer.exit, c.in-Ok.outcome.answer.text.items, c.in-Ok.outcome.events.items, c.in-Ok.ensures.answer, IsEnd.written wrote told)

pub returns-clause-answer : goal.returns-clause-answer
returns-clause-answer g c =
    let wrote = rw c.deref.ensures.value at c.in-Err-write_all.ensures.part in
    (c.in-Ok.outcome.answer.exit, c.in-Ok.outcome.answer.text.items, c.in-Ok.outcome.events.items, c.in-Ok.ensures.answer, IsEnd.cut refl c.in-Ok.ensures.judged wrote c.in-Err-write_all.ensures.cause)

pub returns-in-Ok-write_all-clause-read : goal.returns-in-Ok-write_all-clause-read
returns-in-Ok-write_all-clause-read g c = λ e.
    read_cause (map string_bytes c.args.words.now) (g.F.Shelf.content c.args.shelf.now) (g.F.Shelf.faults c.args.shelf.now) (g.F.Shelf.faults c.find_answer.new.shelf) c.in-Ok.outcome.answer.text.items c.in-Ok.outcome.answer.exit c.in-Ok.outcome.events.items c.in-Ok.ensures.answer (own_exit _ _ exits.ReadFault (λ no. cc) (λ no. cc) c.tell.ensures.ends e)

pub returns-in-Ok-write_all-clause-write : goal.returns-in-Ok-write_all-clause-write
returns-in-Ok-write_all-clause-write g c = λ e.
    absurd (not_after (map string_bytes c.args.words.now) (g.F.Shelf.content c.args.shelf.now) (g.F.Shelf.faults c.args.shelf.now) (g.F.Shelf.faults c.find_answer.new.shelf) exits.WriteFault refl c.in-Ok.outcome.answer.text.items c.in-Ok.outcome.answer.exit c.in-Ok.outcome.events.items c.in-Ok.ensures.answer (own_exit _ _ exits.WriteFault (λ no. cc) (λ no. cc) c.tell.ensures.ends e))

pub returns-in-Ok-write_all-clause-watch : goal.returns-in-Ok-write_all-clause-watch
returns-in-Ok-write_all-clause-watch g c = λ e.
    rw (c.kinds_by.ensures ∙ c.in-Ok.ensures.kinds) at (fault_cause _ _ (not_after (map string_bytes c.args.words.now) (g.F.Shelf.content c.args.shelf.now) (g.F.Shelf.faults c.args.shelf.now) (g.F.Shelf.faults c.find_answer.new.shelf) exits.WatcherFault refl c.in-Ok.outcome.answer.text.items c.in-Ok.outcome.answer.exit c.in-Ok.outcome.events.items c.in-Ok.ensures.answer) c.tell.ensures.ends e)

pub returns-in-Ok-write_all-clause-memory : goal.returns-in-Ok-write_all-clause-memory
returns-in-Ok-write_all-clause-memory g c = λ e. absurd (c.in-Ok.ensures.judged (own_exit _ _ exits.Memory (λ no. cc) (λ no. cc) c.tell.ensures.ends e))

pub returns-in-Ok-write_all-clause-sound : goal.returns-in-Ok-write_all-clause-sound
returns-in-Ok-write_all-clause-sound g c = λ same form all is told.
    accepted (map string_bytes c.args.words.now) (g.F.Shelf.content c.args.shelf.now) (g.F.Shelf.faults c.args.shelf.now) (g.F.Shelf.faults c.find_answer.new.shelf) form all is told c.in-Ok.outcome.answer.text.items c.in-Ok.outcome.answer.exit c.in-Ok.outcome.events.items (own_exit _ _ exits.Accept (λ no. cc) (λ no. cc) c.tell.ensures.ends same) c.in-Ok.ensures.answer

pub returns-in-Ok-write_all-clause-complete : goal.returns-in-Ok-write_all-clause-complete
returns-in-Ok-write_all-clause-complete g c = λ form all x is told judges quiet calm none.
    judged_end _ _ form (λ cause. none cause.0 cause.1 cause.2 cause.3 cause.4 (rw (c.kinds_by.ensures ∙ c.in-Ok.ensures.kinds) at cause.5) cause.6) c.tell.ensures.ends
    (judged_exit (map string_bytes c.args.words.now) (g.F.Shelf.content c.args.shelf.now) (g.F.Shelf.faults c.args.shelf.now) (g.F.Shelf.faults c.find_answer.new.shelf) form all is told x judges quiet c.in-Ok.outcome.answer.text.items c.in-Ok.outcome.answer.exit c.in-Ok.outcome.events.items c.in-Ok.ensures.answer)

pub returns-clause-complete : goal.returns-clause-complete
returns-clause-complete g c = λ form all x is told judges quiet calm none. absurd (calm c.in-Err-write_all.ensures.cause)

pub returns-in-Err-clause-exact : goal.returns-in-Err-clause-exact
returns-in-Err-clause-exact g c = λ form all x is told judges. inl (inr (inr (inr (inl refl))))

pub returns-in-Ok-write_all-clause-exact : goal.returns-in-Ok-write_all-clause-exact
returns-in-Ok-write_all-clause-exact g c = λ form all x is told judges.
    let wrote = rw c.deref.ensures.value at c.in-Ok-write_all.ensures.ok in
    exact_end _ _ form all x _ _ _ wrote c.tell.ensures.ends (exact_of (map string_bytes c.args.words.now) (g.F.Shelf.content c.args.shelf.now) (g.F.Shelf.faults c.args.shelf.now) (g.F.Shelf.faults c.find_answer.new.shelf) form all is told x judges c.in-Ok.outcome.answer.text.items c.in-Ok.outcome.answer.exit c.in-Ok.outcome.events.items c.in-Ok.ensures.answer)

pub returns-clause-exact : goal.returns-clause-exact
returns-clause-exact g c = λ form all x is told judges. inl (inr (inl refl))

pub returns-in-Ok-write_all-clause-others : goal.returns-in-Ok-write_all-clause-others
returns-in-Ok-write_all-clause-others g c = λ i old new there here not_chosen.
    c.tell.ensures.others i old new there here (rw (sym (c.kinds_by.ensures ∙ c.in-Ok.ensures.kinds)) at not_chosen)

pub returns-in-Ok-write_all-clause-untold : goal.returns-in-Ok-write_all-clause-untold
returns-in-Ok-write_all-clause-untold g c = λ untold.
    let usage = never_other _ _ c.in-Ok.ensures.judged (not_after (map string_bytes c.args.words.now) (g.F.Shelf.content c.args.shelf.now) (g.F.Shelf.faults c.args.shelf.now) (g.F.Shelf.faults c.find_answer.new.shelf) exits.WriteFault refl c.in-Ok.outcome.answer.text.items c.in-Ok.outcome.answer.exit c.in-Ok.outcome.events.items c.in-Ok.ensures.answer) c.tell.ensures.ends untold in
    let none = none_chosen (map string_bytes c.args.words.now) (g.F.Shelf.content c.args.shelf.now) (g.F.Shelf.faults c.args.shelf.now) (g.F.Shelf.faults c.find_answer.new.shelf) c.in-Ok.outcome.answer.text.items c.in-Ok.outcome.answer.exit c.in-Ok.outcome.events.items c.in-Ok.ensures.answer usage in
    all_same _ _ (omega (arith, c.tell.ensures.len)) (λ i old new there here.
    c.tell.ensures.others i old new there here (unchosen _ _ (c.kinds_by.ensures ∙ c.in-Ok.ensures.kinds ∙ none)))
