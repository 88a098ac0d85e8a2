use Rattle.std.proofs.Common.{◌≡◌, drop}
use Rattle.std.specs.List.{list_any}
use Rattle.app_model.specs.Components.{ComponentParts}
use Rattle.flow_model.specs.Breaks.{inherits}
use Rattle.scope_check.proofs.survey.Survey.hosts.Given as goal

abbrev pub invariant-loop-c : goal.invariant-loop-c
invariant-loop-c l = list_any (λ (component : ComponentParts). inherits l.self.case.app component.class l.class) l.rows ≡ list_any (λ (component : ComponentParts). inherits l.self.case.app component.class l.class) (drop l.c l.rows)
