use Rattle.std.proofs.Common.{◌≡◌, ap, arith, length, map, slice_set, subst}
use Rattle.std.specs.declared.alloc.Global.{Global}
use Rattle.std.specs.declared.vec.Vec.{Vec}
use Rattle.std.proofs.lemmas.List.{length-map}
use Rattle.ns_base.specs.declared.rows.TypeNo.{TypeNo}
use Rattle.call_targets.specs.Below.{Puts}
use Rattle.call_targets.proofs.Downward.{puts_vec}
use Rattle.call_targets.proofs.children.Children.put.Goals as goal

pub returns : goal.returns
returns c =
    let lists = c.self.inside.lists.items in
    let items = λ (v : Vec TypeNo Global). v.items in
    subst (λ old. Puts (λ t. t ≡ c.args.kind.0) c.args.class old (map items (slice_set lists c.args.kind.0 c.push.new.self))) c.self.view_is
    (puts_vec lists c.args.kind.0 c.args.class c.index_mut.result.now c.push.new.self (omega (arith, c.requires, ap length c.self.view_is, length-map lists items)) c.index_mut.ensures.value c.in_ok-push.ensures.items)
