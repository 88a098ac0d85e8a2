use Rattle.dalvik.specs.Calls.{arg_at, args_len}
use Rattle.std.proofs.Common.{rules, ℕ, ◌&&◌, nat_le, sym}
use Rattle.flow_model.specs.Scope as spec
use Rattle.act_model.specs.Changes.{tag_in}
use Rattle.flow_model.proofs.TestLaws.{below_some}
use Rattle.flow_model.proofs.scope.passes_lock.Goals as goal

pub returns-then-is_lock_argument : goal.returns-then-is_lock_argument
returns-then-is_lock_argument g c =
    let f = λ (k : ℕ). nat_le c.args.from k && spec.may_be_lock (tag_in (g.R.Row.tags c.args.row.now) (arg_at c.args.args.now k)) in
    sym (below_some f (args_len c.args.args.now) c.loop-k.k (search rules) (search rules))
