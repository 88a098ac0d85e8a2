use Rattle.std.proofs.Common.{arith}
use Rattle.cert_check.proofs.FirstPlaces.{number_some, number_none}
use Rattle.cert_check.proofs.places.first_number.Goals as goal

pub returns-then-is_out_between : goal.returns-then-is_out_between
returns-then-is_out_between c = number_some c.args.rule c.args.task.now c.requires.rule _ _ _ c.loop-number.invariant _ c.is_out_between.ensures c.if-is_out_between.true

pub returns : goal.returns
returns c = number_none c.args.rule c.args.task.now c.requires.rule _ _ _ c.loop-number.invariant (λ d broken. (let low = c.number_count-number-end.ensures _ d broken c.requires.rule in omega (arith, low, c.loop-number-test.false)))
