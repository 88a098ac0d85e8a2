use Rattle.std.proofs.Common.{ap, sym, subst, ◌∙◌}
use Rattle.scope_facts.specs.Texts.{AreThreads, is_thread_name}
use Rattle.scope_facts.proofs.ThreadLaws.{no_thread_more, one_thread_more}
use Rattle.scope_facts.proofs.kinds.threads_of.Goals as goal
use Rattle.scope_facts.proofs.kinds.threads_of.Goals.{then-is_thread_name+in_ok-push, else-is_thread_name}

pub loop-t-preserved : goal.loop-t-preserved
loop-t-preserved c =
    let test = ap is_thread_name (sym c.type_text.ensures) ∙ sym c.is_thread_name.ensures in
    elim c.if-is_thread_name.branch [
      | then-is_thread_name+in_ok-push w ↦
          rw w.threads-is (subst (AreThreads c.args.app.now _) (sym w.in_ok-push.ensures.items) (one_thread_more c.args.app.now c.loop-t.t c.loop-t.threads.items c.loop-t.invariant (test ∙ w.if-is_thread_name.true)))
      | else-is_thread_name w ↦ rw w.threads-is (no_thread_more c.args.app.now c.loop-t.t c.loop-t.threads.items c.loop-t.invariant (test ∙ w.if-is_thread_name.false))
    ]
