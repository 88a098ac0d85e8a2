use Rattle.dalvik.specs.Registers.{args_of}
use Rattle.tag_rows.proofs.Words.{argument_none}
use Rattle.tag_rows.proofs.starts.argument_tag.Goals as goal

pub returns-in-None : goal.returns-in-None
returns-in-None g c =
    argument_none (g.R.Row.tags c.args.row.now) (args_of c.args.args.now) c.args.k c.in-None.ensures
