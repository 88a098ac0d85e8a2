use Rattle.std.proofs.Common.{ap}
use Rattle.dex_code.specs.Content.{CodeContent}
use Rattle.method_graph.proofs.Caught.{found_within, caught_in}
use Rattle.method_graph.proofs.graph.make_place.Goals as goal

pub take_handlers-caught-requires : goal.take_handlers-caught-requires
take_handlers-caught-requires c = rw (c.requires.covered, c.as_slice-2.ensures.value, ap (λ (v : CodeContent). v.handlers) c.code.view_is) (found_within c.args.bytes.now c.args.code.now.tries c.args.code.now.handlers c.args.pc c.requires.tries)

pub find_handlers-requires-clause-caught : goal.find_handlers-requires-clause-caught
find_handlers-requires-clause-caught c = rw (c.take_handlers-caught.ensures, c.as_slice-2.ensures.value, ap (λ (v : CodeContent). v.handlers) c.code.view_is) (caught_in c.args.bytes.now c.args.code.now.tries c.args.code.now.handlers c.args.row c.requires.tries)

pub leaves_from-leaves-requires-clause-caught : goal.leaves_from-leaves-requires-clause-caught
leaves_from-leaves-requires-clause-caught c = rw (c.take_handlers-caught.ensures, c.as_slice-2.ensures.value, ap (λ (v : CodeContent). v.handlers) c.code.view_is) (caught_in c.args.bytes.now c.args.code.now.tries c.args.code.now.handlers c.args.row c.requires.tries)
