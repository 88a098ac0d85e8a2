use Rattle.std.proofs.Common.{ℕ, sym}
use Rattle.std.proofs.lemmas.Result.{err_from_is_err_and}
use Rattle.dex_code.specs.Reading.{range_at}
use Rattle.dex_code.proofs.Steps.{reached_fault, reached_more}
use Rattle.dex_code.proofs.tries.check_ranges.Goals as goal

pub returns-in_err-checked-clause-value : goal.returns-in_err-checked-clause-value
returns-in_err-checked-clause-value c =
    let p = err_from_is_err_and c.from_residual.result c.from_residual.ensures.1 in
    rw (p.1, p.2) (sym (reached_fault (λ (t : ℕ) (_ : ℕ). range_at c.args.bytes.now c.args.at t) 0 c.loop-t.t _ _ _ c.loop-t.invariant.ranges (sym c.in_err-checked.ensures.value) c.loop-t-test.true))

pub check_range-requires-clause-before : goal.check_range-requires-clause-before
check_range-requires-clause-before c = c.loop-t.invariant.in_file

pub loop-t-preserved : goal.loop-t-preserved
loop-t-preserved c = record {
  ranges = reached_more (λ (t : ℕ) (_ : ℕ). range_at c.args.bytes.now c.args.at t) 0 c.loop-t.t _ _ c.loop-t.invariant.ranges (sym c.in_ok-checked.ensures.value);
  in_file = λ _. c.in_ok-checked.ensures.in_file;
}
