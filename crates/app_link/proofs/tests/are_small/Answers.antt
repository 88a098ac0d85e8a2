use Rattle.std.proofs.Common.{◌≡◌, Some, slice_get, sym, subst, arith, rules}
use Rattle.dex_file.specs.Content.{FileContent}
use Rattle.app_rows.specs.Small.{IsSmall}
use Rattle.app_link.proofs.Ancestry.{get_there, same_at, below_more}
use Rattle.app_link.proofs.tests.are_small.Goals as goal

pub loop-n-preserved : goal.loop-n-preserved
loop-n-preserved c = λ k file below here.
    below_more (λ k. (file : FileContent) → slice_get c.args.files.now k ≡ Some file → IsSmall file) c.loop-n.n
    (λ k less file here. c.loop-n.invariant k file less here)
    (λ file here. subst IsSmall (sym (same_at c.args.files.now c.loop-n.n file _ here c.index-files-n.is)) (search rules))
    k below file here

pub returns : goal.returns
returns c = λ yes. record {
  count = search (arith);
  each = λ k d below. c.loop-n.invariant k _ (omega (arith, below, c.loop-n-test.false)) (get_there c.args.files.now k d below);
}
