-- What the rules ask of the text of a type, and of a name, by number.
use Rattle.std.specs.Prelude.{ℕ, ◌≡◌, ◌<◌, ◌||◌, List, [], ◌∷◌, length, Some, bytes_eq, codes, slice_get, true, Bool, Contains}
use Rattle.std.specs.List.{list_any}
use Rattle.ns_base.specs.declared.rows.TypeNo.{TypeNo}
use Rattle.app_model.specs.declared.rows.FieldRow.{FieldRow}
use Rattle.app_model.specs.Names.{name_text, type_text}
use Rattle.app_model.specs.Parts.{AppParts}
use Rattle.flow_model.specs.Breaks.{begins_with, class_initialiser, field_of_lock, initialiser, is_callback_name, is_thread, is_type_below, loader_names, thread_names}
use Rattle.scope_facts.specs.declared.kinds.KindRow.{KindRow}
use Rattle.scope_facts.specs.declared.names.NameRow.{NameRow}
use Rattle.scope_facts.specs.Bits.{Tells}

-- the class of a lock field is type t, or stands above it
abbrev pub IsBelowLock : AppParts → (t l : ℕ) → Type 0
IsBelowLock app t l = (field : FieldRow) × (field_of_lock app l ≡ Some field) × (is_type_below app t (slice_get app.classes field.class.0) ≡ true)

pub record IsKind (app : AppParts) (t : ℕ) (kind : KindRow) : Type 0 where
  pub system : kind.system ≡ bytes_eq (type_text app t) (codes "Ljava/lang/System;")
  pub class : kind.class ≡ bytes_eq (type_text app t) (codes "Ljava/lang/Class;")
  pub reflective : kind.reflective ≡ (begins_with (codes "Ljava/lang/reflect/") (type_text app t) || list_any (bytes_eq (type_text app t)) loader_names)
  pub executors : kind.executors ≡ bytes_eq (type_text app t) (codes "Ljava/util/concurrent/Executors;")
  pub thread : kind.thread ≡ is_thread app t
  pub above : Tells kind.above (IsBelowLock app t)

pub record AreKinds (app : AppParts) (kinds : List KindRow) : Type 0 where
  pub len : length kinds ≡ length app.types
  pub each : (t : ℕ) (kind : KindRow) → slice_get kinds t ≡ Some kind → IsKind app t kind

pub record IsName (name : List ℕ) (row : NameRow) : Type 0 where
  pub loads : row.loads ≡ list_any (bytes_eq name) (codes "load" ∷ codes "loadLibrary" ∷ [])
  pub makes : row.makes ≡ list_any (bytes_eq name) (codes "forName" ∷ codes "newInstance" ∷ [])
  pub class_init : row.class_init ≡ bytes_eq name class_initialiser
  pub init : row.init ≡ bytes_eq name initialiser
  pub callback : row.callback ≡ is_callback_name name

pub record AreNames (app : AppParts) (names : List NameRow) : Type 0 where
  pub len : length names ≡ length app.names
  pub each : (n : ℕ) (row : NameRow) → slice_get names n ≡ Some row → IsName (name_text app n) row

-- ---- while these are made
unfoldable pub is_thread_name : List ℕ → Bool
is_thread_name name = list_any (bytes_eq name) thread_names

-- the types of threads among the first n
pub record AreThreads (app : AppParts) (n : ℕ) (threads : List TypeNo) : Type 0 where
  pub only : (t : TypeNo) → Contains threads t → (t.0 < n) × (is_thread_name (type_text app t.0) ≡ true)
  pub all : (t : ℕ) → t < n → is_thread_name (type_text app t) ≡ true → Contains threads (record { 0 = t })
