use Rattle.solution.specs.Facts.{holds}
use Rattle.certificate.proofs.Bits.{end_rows}
use Rattle.certificate.proofs.solved.end_facts.Goals as goal

pub returns : goal.returns
returns c = end_rows (holds c.args.solution.now) c.args.method.0 c.ret_word.result c.exc_word.result c.ret_word.ensures c.exc_word.ensures
