-- The numbers of a short list.
use Rattle.std.specs.Prelude.{ℕ, List, [], ◌∷◌}
use Rattle.dalvik.specs.declared.few.Held.{Held}
use Rattle.dalvik.specs.declared.few.Held.TheVariants.{Nothing, One, Two, More}

abbrev pub numbers_of : Held → List ℕ
numbers_of Nothing = []
numbers_of (One a) = a ∷ []
numbers_of (Two a b) = a ∷ b ∷ []
numbers_of (More more) = more.value.items
