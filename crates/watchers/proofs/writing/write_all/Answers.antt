use Rattle.std.proofs.Common.{arith}
use Rattle.watchers.proofs.Writes.{WroteAll-next, WroteAll-nothing}
use Rattle.watchers.proofs.writing.write_all.Goals as goal

pub returns-in-Err-clause-part : goal.returns-in-Err-clause-part
returns-in-Err-clause-part g c = (c.loop-done.done, c.loop-done-test.true, WroteAll-nothing _ _ _ _ c.loop-done.invariant.wrote c.in-Err.ensures.nothing)

pub loop-done-preserved : goal.loop-done-preserved
loop-done-preserved g c =
    let rest = c.split_at.ensures.back in
    let next = rw rest at c.in-Ok.ensures.taken in
    record {
      within = omega (arith, c.in-Ok.ensures.within);
      later = omega (arith, c.in-Ok.ensures.later);
      wrote = WroteAll-next _ _ _ _ _ _ c.loop-done.invariant.wrote next;
      quiet = λ none. grind arith;
    }
