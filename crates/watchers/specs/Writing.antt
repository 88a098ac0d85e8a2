-- What was written of a text.
use Rattle.std.specs.Prelude.{◌≡◌, ◌<◌, ℕ, List, ◌++◌, length, take, Option, Some}

-- the sink took the text, where it tells what it took
abbrev pub WroteAll : Option (List ℕ) → Option (List ℕ) → List ℕ → Type 0
WroteAll before now text = (bs : List ℕ) → before ≡ Some bs → now ≡ Some (bs ++ text)

-- the sink took a front of the text and not all of it
abbrev pub WrotePart : Option (List ℕ) → Option (List ℕ) → List ℕ → Type 0
WrotePart before now text = (n : ℕ) × (n < length text) × WroteAll before now (take n text)
