use Rattle.std.proofs.Common.{arith}
use Rattle.scope_check.specs.Answering.{IsOwnerOf}
use Rattle.scope_facts.proofs.Rows.{row_more, row_read}
use Rattle.scope_check.proofs.owners.owners.Goals as goal

pub loop-l-preserved : goal.loop-l-preserved
loop-l-preserved c = record {
  len = omega (arith, c.in_ok-push.ensures.len, c.loop-l.invariant.len);
  each = row_more (IsOwnerOf c.args.survey.now) c.loop-l.owners.items c.push.new.self.items c.loop-l.l c.owner_of.result c.loop-l.invariant.len c.in_ok-push.ensures.items c.loop-l.invariant.each c.owner_of.ensures;
}

pub returns : goal.returns
returns c = record {
  len = omega (arith, c.loop-l.invariant.len, c.loop-l-test.false, c.lock_count-count.ensures, c.loop-l.auto.l-end);
  each = λ l owner. row_read (IsOwnerOf c.args.survey.now) c.loop-l.owners.items c.loop-l.l l owner c.loop-l.invariant.len c.loop-l.invariant.each;
}
