-- Which word of its arguments a register of a method has at the start.
use Rattle.std.specs.Prelude.{ℕ, ◌-◌, nat_lt, if◌then◌else◌, List, Option, Some, None, slice_index_or}
use Rattle.app_model.specs.declared.tag.Tag.{Tag}
use Rattle.app_model.specs.declared.tag.Tag.TheVariants.{Zero}

-- of the registers behind the first ones, which are no arguments; and none in the result cell
abbrev pub word_no : (registers ins r : ℕ) → Option ℕ
word_no registers ins r = if nat_lt r (registers - ins) then None else (if nat_lt r registers then Some (r - (registers - ins)) else None)

abbrev pub word_tag : List Tag → Option ℕ → Tag
word_tag words None = Zero
word_tag words (Some k) = slice_index_or words k Zero
