-- A byte of a text that is sought by its place.
use Rattle.std.specs.Prelude.{ℕ, List, Option, Some, slice_get}
use Rattle.app_model.specs.declared.shown.Sought.{Sought}
use Rattle.app_model.specs.declared.shown.Sought.TheVariants.{Found, Past}

-- what stands at the place, where other bytes follow the text
abbrev pub found_in : Sought → List ℕ → Option ℕ
found_in (Found byte) more = Some byte
found_in (Past place) more = slice_get more place
