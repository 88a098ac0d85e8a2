-- Which indices are past their tables, and how many registers arguments take.
use Rattle.std.specs.Prelude.{ℕ, ◌≡◌, ◌<◌, ◌^◌, ◌+◌, ◌==◌, nat_lt, Bool, true, List, if◌then◌else◌, Option, Some, None}
use Rattle.std.specs.BTreeMap.{BTreeMap, get}
use Rattle.std.specs.Ordering.{nat_cmp}
use Rattle.dalvik.specs.declared.ins.Ins.{Ins}
use Rattle.dalvik.specs.declared.ins.Ins.TheVariants as ins
use Rattle.dalvik.specs.Descriptors.{words_of}
use Rattle.dalvik.specs.Calls.{args_len, is_static_call}
use Rattle.dalvik.specs.declared.naming.Naming.{Naming}
use Rattle.dalvik.specs.declared.naming.Naming.TheVariants.{Nothing, String, Kind, Field, Method}
use Rattle.dex_tables.specs.Rows.{string_count, type_count, field_count, method_count, type_name, proto_params, method_proto, list_size, list_entry}
use Rattle.dex_tables.specs.Sound.{sum_below}

-- a number that is not below so many
abbrev pub unless_below : ℕ → ℕ → Option ℕ
unless_below rows n = if nat_lt n rows then None else Some n

-- the index that is past its table
abbrev pub past_table : List ℕ → Naming → Option ℕ
past_table bs Nothing = None
past_table bs (String i) = unless_below (string_count bs) i
past_table bs (Kind i) = unless_below (type_count bs) i
past_table bs (Field i) = unless_below (field_count bs) i
past_table bs (Method i) = unless_below (method_count bs) i

-- the type of parameter k of a prototype
abbrev pub param_type : List ℕ → ℕ → ℕ → ℕ
param_type bs proto k = list_entry bs (proto_params bs proto) k

abbrev pub param_words : List ℕ → ℕ → ℕ → ℕ
param_words bs proto k = words_of (type_name bs (param_type bs proto k))

-- how many registers the parameters of a prototype take
unfoldable pub params_words : List ℕ → ℕ → ℕ
params_words bs proto = sum_below (param_words bs proto) (list_size bs (proto_params bs proto))

-- what is kept for a prototype is how many registers its parameters take
abbrev pub AreSums : List ℕ → BTreeMap ℕ ℕ → Type 0
AreSums bs sums = (proto words : ℕ) → get nat_cmp sums proto ≡ Some words → (words ≡ params_words bs proto) × (words < 2 ^ 34)

-- how many registers the arguments of a method take, with its receiver where it has one
abbrev pub argument_words : List ℕ → Bool → ℕ → ℕ
argument_words bs static method = (if static then 0 else 1) + params_words bs (method_proto bs method)

-- whether a call names as many registers as the arguments of its method take
abbrev pub has_its_args : List ℕ → Ins → Bool
has_its_args bs (ins.Invoke op method arguments) = args_len arguments == argument_words bs (is_static_call op) method
has_its_args bs _ = true
