use Rattle.std.proofs.Common.{◌≡◌, Some, rules}
use Rattle.component_list.specs.Binding.{class_named}
use Rattle.component_list.proofs.BoundLaws.{class_within}
use Rattle.component_list.proofs.binding.Binder.class.Goals as goal

pub returns-in-Some-clause-within : goal.returns-in-Some-clause-within
returns-in-Some-clause-within c =
    let found : Some c.in-Some.class.now ≡ class_named c.args.self.now c.args.name.now = search rules in
    class_within c.args.self.now c.args.name.now c.in-Some.class.now found
