-- The handlers that a throw can come to.
use Rattle.std.specs.Prelude.{ℕ, ◌+◌, ◌≤◌, ◌<◌, nat_lt, nat_le, ◌&&◌, not, Bool, true, List, [], ◌∷◌, length, take, drop, codes, slice_index_or, if◌then◌else◌, Option, Some, None}
use Rattle.std.specs.List.{find, filter_map, list_any, AllPairs}
use Rattle.std.specs.Str.{bytes_eq}
use Rattle.dex_tables.specs.Rows.{type_count, type_name}
use Rattle.dex_code.specs.declared.code.Handler.{Handler}
use Rattle.dex_code.specs.declared.code.TryRow.{TryRow}
use Rattle.method_graph.specs.declared.sweep.Row.{Row}
use Rattle.method_graph.specs.declared.sweep.Found.{Found}
use Rattle.method_graph.specs.declared.sweep.Found.TheVariants as found
use Rattle.method_graph.specs.Sweep.{found_at}
use Rattle.method_graph.specs.Flow.{is_start}

-- a try covers a pc
abbrev pub covers : ℕ → TryRow → Bool
covers pc row = nat_le row.start pc && nat_lt pc (row.start + row.count)

-- the try that covers a pc
abbrev pub try_at : List TryRow → ℕ → Option TryRow
try_at tries pc = find (λ row. covers pc row) tries

-- the handlers of a try
abbrev pub handlers_in : List Handler → Option TryRow → List Handler
handlers_in handlers None = []
handlers_in handlers (Some row) = take row.handlers.len (drop row.handlers.at handlers)

abbrev pub throwable : List ℕ
throwable = codes "Ljava/lang/Throwable;"

abbrev pub is_all : List ℕ → Option ℕ → Bool
is_all bs None = true
is_all bs (Some kind) = bytes_eq (type_name bs kind) throwable

-- a handler catches every type, by itself or as java.lang.Throwable
abbrev pub catches_all : List ℕ → Handler → Bool
catches_all bs handler = is_all bs handler.caught

-- the handlers up to the first that catches every type, with it
abbrev pub up_to_all : List ℕ → List Handler → List Handler
up_to_all bs [] = []
up_to_all bs (handler ∷ more) = handler ∷ (if catches_all bs handler then [] else up_to_all bs more)

abbrev pub index_if : Found → Option ℕ
index_if found.Nothing = None
index_if (found.Start i) = Some i
index_if (found.Payload ident) = None

-- the indices of the instructions where handlers start
abbrev pub indices_of : List Row → List Handler → List ℕ
indices_of rows handlers = filter_map (λ handler. index_if (found_at rows handler.target)) handlers

-- a throw can leave the method where no handler catches every type
abbrev pub may_leave : List ℕ → List Handler → Bool
may_leave bs handlers = not (list_any (λ handler. catches_all bs handler) handlers)

-- the lower of two places
abbrev pub lower : Option ℕ → ℕ → Option ℕ
lower None pc = Some pc
lower (Some low) pc = if nat_lt pc low then Some pc else Some low

-- the lowest target of a handler where no instruction starts, or the place given
abbrev pub bad_target : List Row → Option ℕ → List Handler → Option ℕ
bad_target rows low [] = low
bad_target rows low (handler ∷ more) =
    bad_target rows (if is_start (found_at rows handler.target) then low else lower low handler.target) more

-- each type that is caught is one
abbrev pub IsCaught : List ℕ → Option ℕ → Type 0
IsCaught bs None = Unit {0}
IsCaught bs (Some kind) = kind < type_count bs

-- the tries go forward, cover different units, and have their handlers in the list, whose types are types
pub record AreTries (bs : List ℕ) (tries : List TryRow) (handlers : List Handler) : Type 0 where
  pub forward : AllPairs (λ a b. a.start + a.count ≤ b.start) tries
  pub range : (t : ℕ) (d : TryRow) → t < length tries → (slice_index_or tries t d).start + (slice_index_or tries t d).count ≤ 4194304
  pub within : (t : ℕ) (d : TryRow) → t < length tries → (slice_index_or tries t d).handlers.at + (slice_index_or tries t d).handlers.len ≤ length handlers
  pub caught : (k : ℕ) (d : Handler) → k < length handlers → IsCaught bs (slice_index_or handlers k d).caught

-- the tries before a place end at the pc or before it
abbrev pub IsPast : List TryRow → ℕ → ℕ → Type 0
IsPast tries at pc = (t : ℕ) (d : TryRow) → t < at → (slice_index_or tries t d).start + (slice_index_or tries t d).count ≤ pc
