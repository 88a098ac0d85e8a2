use Rattle.scope_facts.specs.Fields.{Accesses, Makes}
use Rattle.scope_facts.proofs.BitLaws.{none_below, one_more_below}
use Rattle.scope_facts.proofs.fields.seen_in.Goals as goal

pub loop-index-init : goal.loop-index-init
loop-index-init c = record {
  accessed = none_below (Accesses c.args.app.now c.args.method.0);
  made = none_below (Makes c.args.app.now c.args.method.0);
}

pub loop-index-preserved : goal.loop-index-preserved
loop-index-preserved c = record {
  accessed = one_more_below (Accesses c.args.app.now c.args.method.0) c.loop-index.index c.loop-index.accessed c.accessed_at-accessed.result c.loop-index.invariant.accessed c.accessed_at-accessed.ensures;
  made = one_more_below (Makes c.args.app.now c.args.method.0) c.loop-index.index c.loop-index.made c.made_at-made.result c.loop-index.invariant.made c.made_at-made.ensures;
}
