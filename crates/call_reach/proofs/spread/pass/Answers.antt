use Rattle.std.proofs.Common.{rules}
use Rattle.call_reach.proofs.Bits.{pass_none, pass_put}
use Rattle.call_reach.proofs.spread.pass.Goals as goal

pub returns-then-joined-to : goal.returns-then-joined-to
returns-then-joined-to c = λ links among. pass_none c.args.words.now c.args.link c.requires links c.if-joined-to.true

pub returns : goal.returns
returns c = λ links among. pass_put c.args.words.now c.args.link c.requires links among (search rules) c.if-joined-to.false
