use Rattle.std.proofs.Common.{rules}
use Rattle.app_link.proofs.FirstFault.{early_linked, checked}
use Rattle.app_link.proofs.linking.check_parts.Goals as goal

pub returns-in-Some : goal.returns-in-Some
returns-in-Some c = record {
  checked = early_linked c.args.files.items c.in-Some.fault (search rules);
  sizes = tt;
}

pub returns-clause-checked : goal.returns-clause-checked
returns-clause-checked c = checked c.args.files.items _ _ _ c.in_ok-rows.ensures.rows (search rules) (search rules) (search rules) c.limited.ensures.within
