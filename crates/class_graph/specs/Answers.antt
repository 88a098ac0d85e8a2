-- What a look-up gives.
use Rattle.std.specs.Prelude.{ℕ, Option, Some, None}
use Rattle.class_graph.specs.declared.graph.Found.{Found}
use Rattle.class_graph.specs.declared.graph.Found.TheVariants.{App, Outside}

-- the number of the method found
abbrev pub found_number : Found → Option ℕ
found_number (App method) = Some method.0
found_number Outside = None
