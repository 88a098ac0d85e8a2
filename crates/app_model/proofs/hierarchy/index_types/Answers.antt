use Rattle.app_model.proofs.TypeIndex.{all_filled}
use Rattle.app_model.proofs.hierarchy.index_types.Goals as goal

pub returns : goal.returns
returns c = all_filled c.args.count c.args.classes.now c.loop-c.c c.loop-c.index.items c.loop-c-test.false c.loop-c.invariant
