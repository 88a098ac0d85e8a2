use Rattle.std.proofs.Common.{ℕ, arith}
use Rattle.std.proofs.lemmas.Result.{err_from_is_err_and}
use Rattle.dex_code.specs.Reading.{with_typed, ReadHandlers}
use Rattle.dex_code.proofs.Steps.{reached_stop, reached_more}
use Rattle.dex_code.proofs.handlers.add_typed.Goals as goal

pub returns-in_err-end-clause-value : goal.returns-in_err-end-clause-value
returns-in_err-end-clause-value c =
    let p = err_from_is_err_and c.from_residual.result c.from_residual.ensures.1 in
    rw (p.1, p.2) (reached_stop (λ (_ : ℕ) (x : ReadHandlers). with_typed c.args.bytes.now c.args.bounds c.args.t x) _ c.loop-i.i _ _ _ c.loop-i.invariant.typed c.in_err-end.ensures.value c.loop-i-test.true)

pub loop-i-preserved : goal.loop-i-preserved
loop-i-preserved c = record {
  typed = reached_more (λ (_ : ℕ) (x : ReadHandlers). with_typed c.args.bytes.now c.args.bounds c.args.t x) _ c.loop-i.i _ _ c.loop-i.invariant.typed c.in_ok-end.ensures.value;
  len = (omega (arith, c.in_ok-end.ensures.len, c.loop-i.invariant.len), omega (arith, c.in_ok-end.ensures.len));
}
