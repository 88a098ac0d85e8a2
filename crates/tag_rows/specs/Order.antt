-- Rows of tags, one under the other.
use Rattle.std.specs.Prelude.{List, [], ◌∷◌}
use Rattle.app_model.specs.declared.tag.Tag.{Tag}
use Rattle.act_model.specs.Tags.{Under}

-- two rows of one length, tag by tag
pub data RowUnder : List Tag → List Tag → Type 0 where
  nil : RowUnder [] []
  more : {a b : Tag} {low high : List Tag} → Under a b → RowUnder low high → RowUnder (a ∷ low) (b ∷ high)
