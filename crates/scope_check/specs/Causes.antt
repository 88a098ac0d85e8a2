-- What an application is refused for.
use Rattle.std.specs.Prelude.{ℕ, ◌≡◌, List}
use Rattle.app_model.specs.Parts.{AppParts}
use Rattle.flow_model.specs.Breaks.{Candidate, IsFirstBreak, class_name, method_name}
use Rattle.scope_check.specs.declared.found.Found.{Found}
use Rattle.scope_check.specs.declared.scoping.ScopeFault.{ScopeFault}
use Rattle.scope_check.specs.declared.scoping.ScopeFault.TheVariants as faults

pub record IsFirstRule (x : Candidate) (rule m pc : ℕ) (class method : List ℕ) : Type 0 where
  pub first : IsFirstBreak x rule m pc
  pub class_name : class ≡ class_name x.app m
  pub method_name : method ≡ method_name x.app m

abbrev pub IsCause : Candidate → ScopeFault → Type 0
IsCause x faults.Memory = Unit {0}
IsCause x (faults.Rule rule method pc class name) = IsFirstRule x rule method.0 pc class.items name.items

-- ---- while it is found
abbrev pub IsFaultOf : AppParts → Found → ScopeFault → Type 0
IsFaultOf app found faults.Memory = Unit {0}
IsFaultOf app found (faults.Rule rule method pc class name) =
    (rule ≡ found.rule) × (method ≡ found.method) × (pc ≡ found.pc) × (class.items ≡ class_name app found.method.0) × (name.items ≡ method_name app found.method.0)
