use Rattle.std.proofs.Common.{◌≡◌, ◌&&◌, nat_le, false}
use Rattle.act_model.specs.Changes.{tag_in}
use Rattle.app_model.specs.Masks.{any_below}
use Rattle.dalvik.specs.Calls.{arg_at}
use Rattle.flow_model.specs.Scope.{may_be_lock}
use Rattle.flow_model.proofs.scope.passes_lock.Given as goal

abbrev pub invariant-loop-k : goal.invariant-loop-k
invariant-loop-k g l = any_below (λ k. nat_le l.from k && may_be_lock (tag_in (g.R.Row.tags l.row) (arg_at l.args k))) l.k ≡ false
