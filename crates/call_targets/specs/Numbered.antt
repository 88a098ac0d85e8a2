-- Calls, numbered by the sets that they share.
use Rattle.std.specs.Prelude.{ℕ, ◌≡◌, ◌<◌, ◌+◌, ◌*◌, ◌==◌, ◌||◌, ◌&&◌, if◌then◌else◌, Bool, List, [], ◌∷◌, ◌++◌, filter_map, length, Option, Some, None, is_some, flat_map, slice_get, slice_index_or}
use Rattle.std.specs.List.{range_with_len}
use Rattle.std.specs.Map.{lookup}
use Rattle.std.specs.Option.{option_eq}
use Rattle.app_model.specs.declared.rows.Named.{Named}
use Rattle.app_model.specs.CallGraph.{TargetParts, no_targets}
use Rattle.app_model.specs.LockUse.{invoke_of}
use Rattle.app_model.specs.Parts.{AppParts}
use Rattle.app_model.specs.Targets.{CallAt, CallKey, call_of, callee_count, calls_in, entry_count, key_at, key_of, same_key, targets_in, targets_of_call}
use Rattle.app_model.specs.Words.{code_len, ins_at, named_at}
use Rattle.call_targets.specs.Sources.{key_parts, row_from}
use Rattle.call_targets.specs.declared.numbers.SetRow.{SetRow}
use Rattle.call_targets.specs.declared.sources.Key.{Key}
use Rattle.call_targets.specs.declared.sources.Source.{Source}

-- the keys with the number of each one's set, the sources with the same, and the sets
pub record TableParts : Type 0 where
  pub keys : List (Key × ℕ)
  pub sources : List (Source × ℕ)
  pub rows : List SetRow

abbrev pub same_parts : Key → Key → Bool
same_parts a b = a.kind == b.kind && (option_eq (λ x y. x == y) a.caller b.caller && (a.class == b.class && (a.name == b.name && a.proto == b.proto)))

abbrev pub same_source : Source → Source → Bool
same_source a b = option_eq (λ x y. x == y) a.one b.one && (option_eq (λ x y. x == y) a.below b.below && (a.name == b.name && a.proto == b.proto))

abbrev pub number_in : List (Key × ℕ) → Key → Option ℕ
number_in keys key = lookup (same_parts key) keys

-- ---- what a set stands for
-- set s is there, and it is that of this source
pub record HasSource (rows : List SetRow) (source : Source) (s : ℕ) : Type 0 where
  pub set : SetRow
  pub there : slice_get rows s ≡ Some set
  pub is : set.source ≡ source

-- set s is there, and is this one
pub record IsSet (app : AppParts) (rows : List SetRow) (targets : TargetParts) (s : ℕ) : Type 0 where
  pub set : SetRow
  pub there : slice_get rows s ≡ Some set
  pub is : row_from app set.source ≡ targets

-- what an instruction uses is what it can call
abbrev pub IsUse : AppParts → List SetRow → Option ℕ → (m i : ℕ) → Type 0
IsUse app rows None m i = targets_in app m i ≡ no_targets
IsUse app rows (Some s) m i = IsSet app rows (targets_in app m i) s

pub record AreUses (app : AppParts) (rows : List SetRow) (m n : ℕ) (uses : List (Option ℕ)) : Type 0 where
  pub len : length uses ≡ n
  pub each : (i : ℕ) (used : Option ℕ) → slice_get uses i ≡ Some used → IsUse app rows used m i

-- ---- entries: of the sets so far, and of the calls to come
abbrev pub weigh : AppParts → List SetRow → ℕ
weigh app [] = 0
weigh app (row ∷ rows) = row.keys * length (row_from app row.source).callees + weigh app rows

-- the callees of calls, where those of one key count once, and those of a key that was counted not at all
abbrev pub entries_after : AppParts → (counted : CallKey → Bool) → List CallAt → ℕ
entries_after app counted [] = 0
entries_after app counted (call ∷ calls) =
    (if counted (key_at app call) then 0 else callee_count app call) + entries_after app (λ key. same_key key (key_at app call) || counted key) calls

abbrev pub has_key : List (Key × ℕ) → CallKey → Bool
has_key keys key = is_some (number_in keys (key_parts key))

abbrev pub entries_with : AppParts → TableParts → List CallAt → ℕ
entries_with app table calls = weigh app table.rows + entries_after app (has_key table.keys) calls

-- ---- a table of calls
pub record IsTable (app : AppParts) (table : TableParts) : Type 0 where
  pub keys : (m op : ℕ) (named : Named) (s : ℕ) → number_in table.keys (key_parts (key_of app m op named)) ≡ Some s → IsSet app table.rows (targets_of_call app m op named) s
  pub sources : (source : Source) (s : ℕ) → lookup (same_source source) table.sources ≡ Some s → HasSource table.rows source s

-- from one table to a next one, which has more calls
pub record Adds (app : AppParts) (calls : List CallAt) (old new : TableParts) : Type 0 where
  pub table : IsTable app new
  pub kept : (s : ℕ) (targets : TargetParts) → IsSet app old.rows targets s → IsSet app new.rows targets s
  pub count : (rest : List CallAt) → entries_with app old (calls ++ rest) ≡ entries_with app new rest

-- the same for a source alone
pub record AddsSource (app : AppParts) (source : Source) (old new : TableParts) (s : ℕ) : Type 0 where
  pub there : HasSource new.rows source s
  pub table : IsTable app new
  pub kept : (k : ℕ) (targets : TargetParts) → IsSet app old.rows targets k → IsSet app new.rows targets k
  pub keys : new.keys ≡ old.keys
  pub weight : weigh app new.rows ≡ weigh app old.rows

abbrev pub with_rows : TableParts → List SetRow → TableParts
with_rows table rows = record { keys = table.keys; sources = table.sources; rows = rows }

abbrev pub one_more : SetRow → SetRow
one_more row = record { source = row.source; keys = row.keys + 1 }

-- a call of a new key, with its set
pub record AddsCall (app : AppParts) (call : CallAt) (old new : TableParts) (s : ℕ) : Type 0 where
  pub adds : Adds app (call ∷ []) old new
  pub set : IsSet app new.rows (targets_of_call app call.method call.op call.named) s

-- the calls of one method, with what its instructions use; and those of all methods
abbrev pub calls_below : AppParts → (m : ℕ) → List CallAt
calls_below app m = flat_map (calls_in app) (range_with_len 0 m)

-- the call that instruction i of method m is
abbrev pub call_at : AppParts → (m i : ℕ) → Option CallAt
call_at app m i = call_of m (invoke_of (ins_at app m i)) (named_at app m i)

abbrev pub calls_from : AppParts → (m i n : ℕ) → List CallAt
calls_from app m i n = filter_map (call_at app m) (range_with_len i n)

-- an instruction, with what it uses; and the first n instructions of a method
pub record AddsUse (app : AppParts) (m i : ℕ) (old new : TableParts) (used : Option ℕ) : Type 0 where
  pub adds : Adds app (calls_from app m i 1) old new
  pub is : IsUse app new.rows used m i

pub record AddsUses (app : AppParts) (m n : ℕ) (old new : TableParts) (uses : List (Option ℕ)) : Type 0 where
  pub adds : Adds app (calls_from app m 0 n) old new
  pub are : AreUses app new.rows m n uses

-- the first n methods
pub record AddsMethods (app : AppParts) (n : ℕ) (old new : TableParts) (uses : List (List (Option ℕ))) : Type 0 where
  pub adds : Adds app (calls_below app n) old new
  pub len : length uses ≡ n
  pub are : (m : ℕ) → m < n → AreUses app new.rows m (code_len app m) (slice_index_or uses m [])

-- ---- all of it
pub record NumberedParts : Type 0 where
  pub rows : List SetRow
  pub uses : List (List (Option ℕ))

pub record IsNumbered (app : AppParts) (parts : NumberedParts) : Type 0 where
  pub methods : length parts.uses ≡ length app.methods
  pub uses : (m : ℕ) → m < length app.methods → AreUses app parts.rows m (code_len app m) (slice_index_or parts.uses m [])
  pub count : weigh app parts.rows ≡ entry_count app
