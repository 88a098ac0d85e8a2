-- What the descriptor of a type says of its values.
use Rattle.std.specs.Prelude.{ℕ, ◌==◌, ◌&&◌, ◌||◌, Bool, List, length, slice_index, if◌then◌else◌}

-- how many registers a value takes: two where the descriptor begins with J or D, none for V, else one
abbrev pub words_of : List ℕ → ℕ
words_of name =
    if length name == 1 && slice_index name 0 == 86 then 0
    else (if slice_index name 0 == 74 || slice_index name 0 == 68 then 2 else 1)

-- the value is an object: descriptors of classes begin with L, those of arrays with [
abbrev pub is_reference : List ℕ → Bool
is_reference text = slice_index text 0 == 76 || slice_index text 0 == 91
