use Rattle.method_graph.proofs.ReadCode.{tries_in, units_in, handlers_in_limit}
use Rattle.method_graph.proofs.graph.build_graph_with.Goals as goal

pub make_body-requires-clause-tries : goal.make_body-requires-clause-tries
make_body-requires-clause-tries c = tries_in c.args.bytes.now c.args.code.now c.requires.code

pub make_body-requires-clause-size : goal.make_body-requires-clause-size
make_body-requires-clause-size c = units_in c.args.bytes.now c.args.code.now c.requires.code

pub make_body-requires-clause-handlers : goal.make_body-requires-clause-handlers
make_body-requires-clause-handlers c = handlers_in_limit c.args.bytes.now c.args.code.now c.requires.code
