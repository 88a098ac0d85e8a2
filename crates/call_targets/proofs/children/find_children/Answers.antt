use Rattle.std.proofs.Common.{length, arith}
use Rattle.call_targets.proofs.Downward.{children_more, read_at}
use Rattle.call_targets.proofs.children.find_children.Goals as goal

pub loop-c-preserved : goal.loop-c-preserved
loop-c-preserved c =
    let row = read_at c.args.app.now.classes c.loop-c.c (omega (arith, c.loop-c-test.true, c.class_count-c-end.ensures)) in
    children_more c.args.app.now.classes c.loop-c.c (length c.args.app.now.types) c.loop-c.children c.put_class.new.self row.0 row.1 (c.in_ok-put_class.ensures row.0 row.1) c.loop-c.invariant
