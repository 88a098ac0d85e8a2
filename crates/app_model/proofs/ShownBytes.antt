-- A byte of CLASS->NAME, sought by its place.
use Rattle.std.proofs.Common.{◌≡◌, ℕ, ◌++◌, List, [], codes, sym, ap, ◌∙◌}
use Rattle.std.specs.Prelude.{slice_get}
use Rattle.std.proofs.lemmas.List.{append_assoc, append-nil}
use Rattle.app_model.specs.declared.shown.Sought.{Sought}
use Rattle.app_model.specs.Shown.{member_text, shown}
use Rattle.app_model.specs.Sought.{found_in}

-- where nothing follows the name
pub whole : (name : List ℕ) (at : ℕ) (sought : Sought) → ((more : List ℕ) → slice_get (shown name ++ more) at ≡ found_in sought more) → found_in sought [] ≡ slice_get (shown name) at
whole name at sought found = sym (ap (λ text. slice_get text at) (sym (append-nil (shown name))) ∙ found [])

-- where the arrow and the name follow the class
pub parts : (class name : List ℕ) (at : ℕ) (sought : Sought) → ((more : List ℕ) → slice_get (shown class ++ more) at ≡ found_in sought more) → found_in sought (codes "->" ++ shown name) ≡ slice_get (member_text class name) at
parts class name at sought found = sym (ap (λ text. slice_get text at) (append_assoc (shown class) (codes "->") (shown name)) ∙ found (codes "->" ++ shown name))
