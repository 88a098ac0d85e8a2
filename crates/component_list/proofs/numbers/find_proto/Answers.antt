use Rattle.std.proofs.Common.{arith, map, ◌∙◌}
use Rattle.app_model.specs.Components.{taking}
use Rattle.component_list.proofs.Places.{found_next, has_prototype, proto_here, proto_none, proto_told}
use Rattle.component_list.proofs.numbers.find_proto.Goals as goal

pub returns-then-is_proto : goal.returns-then-is_proto
returns-then-is_proto c =
    let p = taking (map (λ q. q.now) c.args.params.now) c.args.output.now in
    proto_here c.args.app.now p c.loop-p.p c.proto-row.result.now c.loop-p.invariant c.proto-row.ensures.is
    (proto_told c.args.app.now p c.loop-p.p c.proto-row.result.now c.is_proto.result c.proto-row.ensures.is c.is_proto.ensures ∙ c.if-is_proto.true)

pub loop-p-preserved : goal.loop-p-preserved
loop-p-preserved c =
    let p = taking (map (λ q. q.now) c.args.params.now) c.args.output.now in
    found_next (has_prototype c.args.app.now p) c.args.app.now.protos c.loop-p.p c.proto-row.result.now c.loop-p.invariant c.proto-row.ensures.is
    (proto_told c.args.app.now p c.loop-p.p c.proto-row.result.now c.is_proto.result c.proto-row.ensures.is c.is_proto.ensures ∙ c.if-is_proto.false)

pub returns : goal.returns
returns c = proto_none c.args.app.now (taking (map (λ q. q.now) c.args.params.now) c.args.output.now) c.loop-p.p c.loop-p.invariant (omega arith)
