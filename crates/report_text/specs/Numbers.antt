-- How the numbers of a fault are written.
use Rattle.std.specs.Prelude.{ℕ, List, ◌++◌, codes, decimal}
use Rattle.std.specs.List.{flat_map}

abbrev pub number_text : ℕ → List ℕ
number_text n = codes " " ++ decimal n

-- each number after a space
abbrev pub numbers_text : List ℕ → List ℕ
numbers_text numbers = flat_map number_text numbers
