-- Files as a map from names to bytes.
use Rattle.std.specs.Prelude.{ℕ, List, Option, String, Vec}
use Rattle.std.specs.Option.{option_map}
use Rattle.std.specs.BTreeMap.{get_by_text, BTreeMap}

-- the bytes of a name, None where it is absent
abbrev pub file_in : {Y Z : Type 0} → BTreeMap (String Y) (Vec ℕ Z) → List ℕ → Option (List ℕ)
file_in files name = option_map (λ file. file.items) (get_by_text files name)
