use Rattle.std.proofs.Common.{map}
use Rattle.app_model.specs.Components.{taking}
use Rattle.component_list.proofs.Places.{IsFrom, has_prototype}
use Rattle.component_list.proofs.numbers.find_proto.Given as goal

abbrev pub invariant-loop-p : goal.invariant-loop-p
invariant-loop-p l = IsFrom (has_prototype l.app (taking (map (λ p. p.now) l.params) l.output)) l.app.protos l.p
