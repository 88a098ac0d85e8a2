use Rattle.std.proofs.Common.{ℕ, sym}
use Rattle.std.proofs.lemmas.Result.{err_from_is_err_and}
use Rattle.dex_code.specs.Reading.{with_list, ReadLists}
use Rattle.dex_code.proofs.Steps.{reached_fault, reached_more}
use Rattle.dex_code.proofs.Sorted.{rising_more, below_all_more}
use Rattle.dex_code.proofs.Lebs.{with_list-err, with_list-ok}
use Rattle.dex_code.proofs.handlers.read_lists.Goals as goal

pub returns-in_err-next-clause-value : goal.returns-in_err-next-clause-value
returns-in_err-next-clause-value c =
    let p = err_from_is_err_and c.from_residual.result c.from_residual.ensures.1 in
    rw (p.1, p.2) (reached_fault (λ (_ : ℕ) (x : ReadLists). with_list c.args.bytes.now x) _ c.loop-i.i _ _ _ c.loop-i.invariant.lists (with_list-err _ _ _ (sym c.in_err-next.ensures.value)) c.loop-i-test.true)

pub loop-i-preserved : goal.loop-i-preserved
loop-i-preserved c = record {
  lists = reached_more (λ (_ : ℕ) (x : ReadLists). with_list c.args.bytes.now x) _ c.loop-i.i _ _ c.loop-i.invariant.lists (with_list-ok _ _ _ _ (sym c.in_ok-next.ensures.value) c.in_ok-push.ensures.items);
  rising = rising_more _ _ _ c.in_ok-push.ensures.items c.loop-i.invariant.rising c.loop-i.invariant.below;
  below = below_all_more _ _ _ _ c.in_ok-push.ensures.items c.loop-i.invariant.below c.in_ok-next.ensures.later;
}
