use Rattle.std.proofs.Common.{◌≡◌, ℕ, subst, arith}
use Rattle.solution.specs.Words.{AreRows}
use Rattle.solution.specs.Facts.{holds}
use Rattle.certificate.specs.Solved.{BodyFact}
use Rattle.certificate.proofs.Bits.{more_rows}
use Rattle.certificate.proofs.solved.facts_of.Goals as goal

pub loop-index-preserved : goal.loop-index-preserved
loop-index-preserved c =
    more_rows (holds c.args.solution.now) c.args.code.method.0 c.loop-index.index c.loop-index.facts c.at_word-facts.result c.loop-index.invariant c.at_word-facts.ensures

pub returns : goal.returns
returns c =
    let all : c.loop-index.index ≡ c.args.code.len = omega (arith, c.loop-index-test.false, c.loop-index.auto.index-end) in
    subst (λ (n : ℕ). AreRows (BodyFact (holds c.args.solution.now) c.args.code.method.0 n) 8 c.loop-index.facts) all c.loop-index.invariant
