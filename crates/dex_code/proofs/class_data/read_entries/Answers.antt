use Rattle.std.proofs.Common.{ℕ, arith}
use Rattle.std.proofs.lemmas.Result.{err_from_is_err_and}
use Rattle.dex_code.specs.Reading.{with_entry, ReadMembers}
use Rattle.dex_code.proofs.Steps.{reached_stop, reached_more}
use Rattle.dex_code.proofs.class_data.read_entries.Goals as goal

pub returns-in_err-end-clause-entries : goal.returns-in_err-end-clause-entries
returns-in_err-end-clause-entries c =
    let p = err_from_is_err_and c.from_residual.result c.from_residual.ensures.1 in
    rw (p.1, p.2) (reached_stop (λ (_ : ℕ) (x : ReadMembers). with_entry c.args.bytes.now c.args.wanted.class c.args.wanted.kind c.args.wanted.before x) _ c.loop-i.i _ _ _ c.loop-i.invariant.entries c.in_err-end.ensures.entry c.loop-i-test.true)

pub loop-i-preserved : goal.loop-i-preserved
loop-i-preserved c = record {
  entries = reached_more (λ (_ : ℕ) (x : ReadMembers). with_entry c.args.bytes.now c.args.wanted.class c.args.wanted.kind c.args.wanted.before x) _ c.loop-i.i _ _ c.loop-i.invariant.entries c.in_ok-end.ensures.entry;
  len = omega (arith, c.in_ok-end.ensures.len, c.loop-i.invariant.len);
  numbers = c.in_ok-end.ensures.numbers;
}
