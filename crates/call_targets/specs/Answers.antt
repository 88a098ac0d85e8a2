-- Why there is no call graph.
use Rattle.std.specs.Prelude.{◌≡◌, ◌<◌}
use Rattle.ns_base.specs.Answers.{limit_of}
use Rattle.ns_base.specs.declared.answers.Counted.TheVariants.{Targets}
use Rattle.app_model.specs.Parts.{AppParts}
use Rattle.app_model.specs.Targets.{entry_count}
use Rattle.call_targets.specs.declared.fault.TargetFault.{TargetFault}
use Rattle.call_targets.specs.declared.fault.TargetFault.TheVariants.{Limit, Memory}

-- the entries are too many; want of memory has no other cause
abbrev pub IsCause : AppParts → TargetFault → Type 0
IsCause app Memory = Unit {0}
IsCause app (Limit counted) = (counted ≡ Targets) × (limit_of Targets < entry_count app)
