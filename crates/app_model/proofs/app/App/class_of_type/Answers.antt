use Rattle.std.proofs.Common.{rules}
use Rattle.app_model.proofs.TypeIndex.{class_within}
use Rattle.app_model.proofs.app.App.class_of_type.Goals as goal

pub returns-in-Some-clause-within : goal.returns-in-Some-clause-within
returns-in-Some-clause-within c = class_within c.args.self.now.classes c.args.kind.0 c.in-Some.found (search rules)
