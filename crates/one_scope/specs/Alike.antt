-- Two subjects in scope of one application and one component list: each has a call graph and a table of tags of its own.
use Rattle.std.specs.Prelude.{◌≡◌}
use Rattle.app_model.specs.Subject.{SubjectParts}
use Rattle.flow_model.specs.InScope.{IsInScope}

pub record AreAlike (x y : SubjectParts) : Type 0 where
  pub app : x.app ≡ y.app
  pub list : x.list ≡ y.list
  pub first : IsInScope x
  pub second : IsInScope y
