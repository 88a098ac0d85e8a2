use Rattle.std.proofs.Common.{◌≡◌}
use Rattle.app_model.specs.Masks.{any_below}
use Rattle.flow_model.specs.Breaks.{is_lock_ins}
use Rattle.scope_facts.specs.LockCode.{is_other}
use Rattle.scope_facts.proofs.lock_code.lock_word.Given as goal

abbrev pub invariant-loop-index : goal.invariant-loop-index
invariant-loop-index l = record {
  locks : l.locks ≡ any_below (is_lock_ins l.app l.method.0) l.index;
  others : l.others ≡ any_below (is_other l.app l.method.0) l.index;
}
