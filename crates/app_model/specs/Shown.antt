-- Names as the program prints them, and as the text of a certificate has them.
use Rattle.std.specs.Prelude.{ℕ, ◌+◌, ◌/◌, ◌%◌, List, [], ◌∷◌, ◌++◌, Bool, nat_lt, nat_le, ◌&&◌, ◌==◌, not, if◌then◌else◌, Option, Some, None, slice_get, codes}
use Rattle.std.specs.List.{flat_map}
use Rattle.ns_base.specs.declared.rows.FieldNo.{FieldNo}
use Rattle.app_model.specs.declared.rows.FieldRow.{FieldRow}
use Rattle.app_model.specs.Names.{name_text}
use Rattle.app_model.specs.Parts.{AppParts}
use Rattle.app_model.specs.Slots.{class_text}

abbrev pub hex_digit : ℕ → ℕ
hex_digit n = if nat_lt n 10 then 48 + n else 87 + n

-- bytes that are shown as they are: 21 to 7e but for the backslash
abbrev pub is_graphic : ℕ → Bool
is_graphic b = nat_le 33 b && nat_le b 126 && not (b == 92)

abbrev pub shown_byte : ℕ → List ℕ
shown_byte b = if is_graphic b then b ∷ [] else 92 ∷ 120 ∷ hex_digit (b / 16) ∷ hex_digit (b % 16) ∷ []

-- a name as it is shown
abbrev pub shown : List ℕ → List ℕ
shown name = flat_map shown_byte name

-- CLASS->NAME
abbrev pub member_text : List ℕ → List ℕ → List ℕ
member_text class name = shown class ++ codes "->" ++ shown name

abbrev pub field_text : AppParts → Option FieldRow → List ℕ
field_text app None = []
field_text app (Some field) = member_text (class_text app field.class.0) (name_text app field.name.0)

abbrev pub field_of : AppParts → Option FieldNo → Option FieldRow
field_of app None = None
field_of app (Some f) = slice_get app.fields f.0

-- a lock field
unfoldable pub lock_text : AppParts → ℕ → List ℕ
lock_text app l = field_text app (field_of app (slice_get app.locks l))
