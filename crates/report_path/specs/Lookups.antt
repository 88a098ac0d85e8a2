-- What is looked up by a number.
use Rattle.std.specs.Prelude.{◌≡◌, Option, Some}

-- there is a value, and P holds of it
pub record Has {A : Type 0} (o : Option A) (P : A → Type 0) : Type 0 where
  pub value : A
  pub at : o ≡ Some value
  pub holds : P value
