-- What flows from an instruction, as a change of the row before it.
use Rattle.std.specs.Prelude.{ℕ, ◌≡◌, ◌≢◌, Bool, true, false, List, length}
use Rattle.app_model.specs.Masks.{in_lock_mask}
use Rattle.app_model.specs.Sites.{is_make}
use Rattle.app_model.specs.declared.tag.Tag.{Tag}
use Rattle.app_model.specs.declared.tag.Tag.TheVariants.{Bot, Zero, Solid, Held, Any, Field, New, Mixed}
use Rattle.act_model.specs.Changes.{after, called, tag_in, thrown}
use Rattle.act_model.specs.declared.act.Act.{Act}
use Rattle.act_model.specs.declared.act.Act.TheVariants.{Call}
use Rattle.flow_model.specs.TagFlow.{without_result}
use Rattle.tag_rows.specs.declared.change.Change.{Change}
use Rattle.tag_rows.specs.declared.change.Change.TheVariants.{After, Thrown, Past, Out}
use Rattle.tag_rows.specs.declared.change.Kept.{Kept}

abbrev pub changed : Change → List Tag → List Tag
changed (After site a) row = after site a row
changed (Thrown a) row = thrown a row
changed (Past gone) row = without_result (called (in_lock_mask gone) row)
changed (Out gone) row = called (in_lock_mask gone) row

-- a tag that names no lock field and no site
abbrev pub is_plain : Tag → Bool
is_plain Bot = true
is_plain Zero = true
is_plain Solid = true
is_plain Any = true
is_plain Mixed = true
is_plain (Held l) = false
is_plain (Field l) = false
is_plain (New s) = false

-- all cells but these two are as before; or only those with a plain tag are
abbrev pub Keeps : Change → (width : ℕ) → Kept → Type 0
Keeps change width kept = (row : List Tag) (r : ℕ) → length row ≡ width → r ≢ kept.first → r ≢ kept.second → (kept.plain ≡ true → is_plain (tag_in row r) ≡ true) → tag_in (changed change row) r ≡ tag_in row r

-- whether a call makes a lock
abbrev pub makes_lock : Act → Bool
makes_lock (Call how usage arguments gives) = is_make usage
makes_lock a = false
