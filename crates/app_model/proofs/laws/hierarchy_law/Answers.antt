use Rattle.app_model.proofs.HierarchyLaws.{subtypes_told}
use Rattle.app_model.proofs.laws.hierarchy_law.Goals as goal

pub returns : goal.returns
returns c = λ app ranges. subtypes_told app ranges
