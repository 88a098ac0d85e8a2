use Rattle.std.proofs.Common.{sym, ◌∙◌}
use Rattle.scope_facts.proofs.ThreadLaws.{no_thread, thread_found}
use Rattle.scope_facts.proofs.kinds.is_thread.Goals as goal

pub returns-then-is_sub : goal.returns-then-is_sub
returns-then-is_sub c =
    thread_found c.args.app.now c.args.threads.now c.args.kind.0 c.loop-i.i (record { 0 = 0 }) c.requires.threads c.loop-i-test.true (sym (c.is_sub.ensures c.args.app.now c.requires.classes) ∙ c.if-is_sub.true)

pub returns : goal.returns
returns c = no_thread c.args.app.now c.args.threads.now c.args.kind.0 c.loop-i.i c.requires.threads c.loop-i-test.false c.loop-i.invariant
