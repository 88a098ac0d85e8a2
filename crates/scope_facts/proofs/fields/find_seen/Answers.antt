use Rattle.scope_facts.specs.Fields.{AccessesIn, InReached, MakesIn}
use Rattle.scope_facts.proofs.BitLaws.{none_below, one_more_below}
use Rattle.scope_facts.proofs.fields.find_seen.Goals as goal

pub loop-method-init : goal.loop-method-init
loop-method-init c = record {
  accessed = none_below (InReached c.args.reached.now (AccessesIn c.args.app.now));
  made = none_below (InReached c.args.reached.now (MakesIn c.args.app.now));
}

pub loop-method-preserved : goal.loop-method-preserved
loop-method-preserved c = record {
  accessed = one_more_below (InReached c.args.reached.now (AccessesIn c.args.app.now)) c.loop-method.method c.loop-method.accessed c.seen_if-more.result.accessed c.loop-method.invariant.accessed c.seen_if-more.ensures.accessed;
  made = one_more_below (InReached c.args.reached.now (MakesIn c.args.app.now)) c.loop-method.method c.loop-method.made c.seen_if-more.result.made c.loop-method.invariant.made c.seen_if-more.ensures.made;
}
