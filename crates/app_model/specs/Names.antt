-- Types, names and prototypes as the files spell them, and those that the analysis knows.
use Rattle.std.specs.Prelude.{ℕ, Bool, true, false, ◌&&◌, List, [], ◌∷◌, Option, Some, None, slice_get, slice_index_or, bytes_eq, codes}
use Rattle.ns_base.specs.declared.rows.TypeNo.{TypeNo}
use Rattle.app_model.specs.declared.rows.Named.{Named}
use Rattle.app_model.specs.Parts.{AppParts, ProtoParts}

-- the descriptor of a type, and a name; empty out of range
unfoldable pub type_text : AppParts → ℕ → List ℕ
type_text app t = slice_index_or app.types t []

unfoldable pub name_text : AppParts → ℕ → List ℕ
name_text app n = slice_index_or app.names n []

-- these types have these descriptors
abbrev pub are_types : AppParts → List TypeNo → List (List ℕ) → Bool
are_types app [] [] = true
are_types app [] (d ∷ ds) = false
are_types app (t ∷ ts) [] = false
are_types app (t ∷ ts) (d ∷ ds) = bytes_eq (type_text app t.0) d && are_types app ts ds

-- a prototype has this result and these parameters
abbrev pub has_types : AppParts → Option ProtoParts → List ℕ → List (List ℕ) → Bool
has_types app None result params = false
has_types app (Some proto) result params = bytes_eq (type_text app proto.result.0) result && are_types app proto.params params

unfoldable pub is_proto : AppParts → ℕ → List ℕ → List (List ℕ) → Bool
is_proto app p result params = has_types app (slice_get app.protos p) result params

-- the descriptor of a prototype's result; empty out of range
abbrev pub result_of : AppParts → Option ProtoParts → List ℕ
result_of app None = []
result_of app (Some proto) = type_text app proto.result.0

unfoldable pub result_text : AppParts → ℕ → List ℕ
result_text app p = result_of app (slice_get app.protos p)

-- a named method has this class; this name and prototype
abbrev pub is_on : AppParts → Named → List ℕ → Bool
is_on app named class = bytes_eq (type_text app named.class.0) class

abbrev pub is_method : AppParts → Named → List ℕ → List ℕ → List (List ℕ) → Bool
is_method app named name result params =
    bytes_eq (name_text app named.name.0) name && is_proto app named.proto.0 result params

abbrev pub wake_lock_name : List ℕ
wake_lock_name = codes "Landroid/os/PowerManager$WakeLock;"

abbrev pub power_manager_name : List ℕ
power_manager_name = codes "Landroid/os/PowerManager;"

abbrev pub string_name : List ℕ
string_name = codes "Ljava/lang/String;"
