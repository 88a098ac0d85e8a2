use Rattle.std.proofs.Common.{arith, subst, ℕ, ⊎_elim}
use Rattle.std.proofs.lemmas.Bool.{cases_eq}
use Rattle.derivation.specs.Ends.{LeavesBy}
use Rattle.derivation.proofs.leaving.exit_from.Goals as goal

pub loop-number-preserved : goal.loop-number-preserved
loop-number-preserved c = λ e end lt h. ⊎_elim
    (λ here. c.in_default.ensures end (subst (λ (e : ℕ). LeavesBy c.args.subject.now c.args.bad c.args.lines.now c.args.v e end) here h))
    (λ other. c.loop-number.invariant e end (omega (arith, lt)) h)
    (cases_eq e c.loop-number.number)

pub returns : goal.returns
returns c = λ e end lt h. c.loop-number.invariant e end (omega (arith, lt, c.loop-number-test.false)) h
