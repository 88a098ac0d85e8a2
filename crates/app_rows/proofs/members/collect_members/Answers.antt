use Rattle.std.proofs.Common.{◌∙◌, length, fold, sym, ap, arith}
use Rattle.std.specs.Vec.Iter.{into_iter_items}
use Rattle.app_rows.specs.Linked.{with_file}
use Rattle.app_rows.proofs.Sizes.{small_more}
use Rattle.app_rows.proofs.members.collect_members.Goals as goal

pub loop-file-preserved : goal.loop-file-preserved
loop-file-preserved c =
    let at = c.loop-file in
    let steps = c.in-Some.ensures.steps.0 in
    let few = small_more _ _ _ steps at.invariant.small in
    let put = c.in_ok-push_file.ensures in record {
      rest = ap (λ m. fold (with_file c.args.seen.now) m (into_iter_items c.next.new.self)) put.members ∙ ap (fold (with_file c.args.seen.now) at.members) (sym steps) ∙ at.invariant.rest;
      len =
          let was = at.invariant.len in
          let gone = c.in-Some.ensures.steps.1 in
          let short = ap length steps in
          omega arith;
      room =
          let was = at.invariant.room in
          let more = put.count in
          let most = few.0.short.classes in
          let short = ap length steps in
          omega arith;
      small = few.1;
    }
