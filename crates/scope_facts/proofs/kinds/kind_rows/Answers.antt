use Rattle.std.proofs.Common.{arith}
use Rattle.scope_facts.specs.Texts.{IsKind}
use Rattle.scope_facts.proofs.Rows.{row_more, row_read}
use Rattle.scope_facts.proofs.kinds.kind_rows.Goals as goal

pub loop-t-preserved : goal.loop-t-preserved
loop-t-preserved c = record {
  len = omega (arith, c.in_ok-push.ensures.len, c.loop-t.invariant.len);
  each = row_more (IsKind c.args.app.now) c.loop-t.kinds.items c.push.new.self.items c.loop-t.t c.row_of.result c.loop-t.invariant.len c.in_ok-push.ensures.items c.loop-t.invariant.each c.row_of.ensures;
}

pub returns : goal.returns
returns c =
    let whole = c.loop-t-test.false in
    record {
      len = omega (arith, c.loop-t.invariant.len, c.type_count-t-end.ensures, whole, c.loop-t.auto.t-end);
      each = λ t kind. row_read (IsKind c.args.app.now) c.loop-t.kinds.items c.loop-t.t t kind c.loop-t.invariant.len c.loop-t.invariant.each;
    }
