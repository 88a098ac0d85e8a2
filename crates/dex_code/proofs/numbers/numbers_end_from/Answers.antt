use Rattle.std.proofs.Common.{ℕ, sym}
use Rattle.std.proofs.lemmas.Result.{err_from_is_err_and}
use Rattle.dex_code.specs.Reading.{number_end}
use Rattle.dex_code.proofs.Steps.{reached_fault}
use Rattle.dex_code.proofs.Lebs.{number_end-err}
use Rattle.dex_code.proofs.numbers.numbers_end_from.Goals as goal

pub returns-in_err-next-clause-value : goal.returns-in_err-next-clause-value
returns-in_err-next-clause-value c =
    let p = err_from_is_err_and c.from_residual.result c.from_residual.ensures.1 in
    rw (p.1, p.2) (sym (reached_fault (λ (_ : ℕ) (q : ℕ). number_end c.args.bytes.now q) c.args.at c.loop-i.i _ _ _ c.loop-i.invariant.value (number_end-err _ _ _ (sym c.in_err-next.ensures.value)) c.loop-i-test.true))
