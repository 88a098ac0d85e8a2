-- What is read of an application, by numbers. Out of range a word answers None.
use Rattle.std.specs.Prelude.{ℕ, ◌≡◌, ◌≤◌, ◌<◌, ◌^◌, List, [], length, Bool, false, Option, Some, None, slice_get, slice_index_or}
use Rattle.dalvik.specs.declared.ins.Ins.{Ins}
use Rattle.dalvik.specs.declared.body.Place.{Place}
use Rattle.app_model.specs.declared.rows.Operand.{Operand}
use Rattle.app_model.specs.declared.rows.Operand.TheVariants.{Plain, Invoke, Access}
use Rattle.app_model.specs.declared.rows.Named.{Named}
use Rattle.app_model.specs.declared.rows.NamedField.{NamedField}
use Rattle.dalvik.specs.Body.{BodyRows}
use Rattle.app_model.specs.Parts.{AppParts}

abbrev pub no_body : BodyRows
no_body = record { registers = 0; places = [] }

-- the places of a method's code
unfoldable pub places_of : AppParts → ℕ → List Place
places_of app m = (slice_index_or app.code m no_body).places

-- how many instructions a method has
abbrev pub code_len : AppParts → ℕ → ℕ
code_len app m = length (places_of app m)

unfoldable pub place_at : AppParts → ℕ → ℕ → Option Place
place_at app m i = slice_get (places_of app m) i

-- the instruction of that index
abbrev pub ins_of : Option Place → Option Ins
ins_of None = None
ins_of (Some place) = Some place.ins

abbrev pub ins_at : AppParts → ℕ → ℕ → Option Ins
ins_at app m i = ins_of (place_at app m i)

-- its pc
abbrev pub pc_of : Option Place → Option ℕ
pc_of None = None
pc_of (Some place) = Some place.pc

abbrev pub pc_at : AppParts → ℕ → ℕ → Option ℕ
pc_at app m i = pc_of (place_at app m i)

-- where control can go from it: successor number k
abbrev pub successor_of : Option Place → ℕ → Option ℕ
successor_of None k = None
successor_of (Some place) k = slice_get place.successors k

abbrev pub successor_at : AppParts → ℕ → ℕ → ℕ → Option ℕ
successor_at app m i k = successor_of (place_at app m i) k

-- where a throw can go: possible handler number k
abbrev pub handler_of : Option Place → ℕ → Option ℕ
handler_of None k = None
handler_of (Some place) k = slice_get place.handlers k

abbrev pub handler_at : AppParts → ℕ → ℕ → ℕ → Option ℕ
handler_at app m i k = handler_of (place_at app m i) k

-- whether a throw can leave the method there
abbrev pub leaves_of : Option Place → Bool
leaves_of None = false
leaves_of (Some place) = place.leaves

abbrev pub leaves_at : AppParts → ℕ → ℕ → Bool
leaves_at app m i = leaves_of (place_at app m i)

-- what an instruction names
unfoldable pub operand_at : AppParts → ℕ → ℕ → Option Operand
operand_at app m i = slice_get (slice_index_or app.operands m []) i

-- the method that an invoke names
abbrev pub named_of : Option Operand → Option Named
named_of None = None
named_of (Some Plain) = None
named_of (Some (Invoke named)) = Some named
named_of (Some (Access field)) = None

abbrev pub named_at : AppParts → ℕ → ℕ → Option Named
named_at app m i = named_of (operand_at app m i)

-- the field that an access names
abbrev pub field_named_of : Option Operand → Option NamedField
field_named_of None = None
field_named_of (Some Plain) = None
field_named_of (Some (Invoke named)) = None
field_named_of (Some (Access field)) = Some field

abbrev pub field_named_at : AppParts → ℕ → ℕ → Option NamedField
field_named_at app m i = field_named_of (operand_at app m i)

-- each table has fewer than 2^32 rows, and each method code and operands of one length
pub record IsApp (app : AppParts) : Type 0 where
  pub types : length app.types < 2 ^ 32
  pub names : length app.names < 2 ^ 32
  pub protos : length app.protos < 2 ^ 32
  pub classes : length app.classes < 2 ^ 32
  pub methods : length app.methods < 2 ^ 32
  pub fields : length app.fields < 2 ^ 32
  pub locks : length app.locks ≤ 64
  pub code : length app.code ≡ length app.methods
  pub operands : length app.operands ≡ length app.methods
  pub each : (m : ℕ) → m < length app.methods → length (slice_index_or app.operands m []) ≡ code_len app m
