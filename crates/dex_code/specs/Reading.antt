-- The order in which class data and code items are read, with the first fault.
use Rattle.std.specs.List.{list_any}
use Rattle.std.specs.Prelude.{ℕ, ℤ, option_map, zero, suc, ◌+◌, ◌-◌, ◌*◌, List, [], ◌∷◌, ◌++◌, length, Bool, false, nat_lt, ◌==◌, ◌||◌, if◌then◌else◌, slice_get, unsigned_abs, Option, Some, None, Result, Ok, Err}
use Rattle.std.specs.Str.{bytes_eq}
use Rattle.ns_base.specs.Answers.{limit_of}
use Rattle.ns_base.specs.declared.answers.Counted.TheVariants.{Members, Units, Handlers}
use Rattle.dex_bytes.specs.declared.fault.DexFault.{DexFault}
use Rattle.dex_bytes.specs.declared.fault.DexFault.TheVariants.{Short, Index, MemberIndex, Registers, TryRange, HandlerOffset, HandlerAddress, Limit}
use Rattle.dex_bytes.specs.Leb128.{uleb_at, sleb_at}
use Rattle.dex_tables.specs.Reading.{◌>>=◌, list_below}
use Rattle.dex_tables.specs.Rows.{type_count, class_data, class_type, type_name}
use Rattle.dex_code.specs.declared.class_data.Kind.{Kind}
use Rattle.dex_code.specs.declared.class_data.Kind.TheVariants.{Field, Method}
use Rattle.dex_code.specs.declared.members.Member.{Member}
use Rattle.dex_code.specs.declared.code.Handler.{Handler}
use Rattle.dex_code.specs.declared.code.TryRow.{TryRow}
use Rattle.dex_code.specs.declared.handlers.Bounds.{Bounds}
use Rattle.dex_code.specs.ClassData.{row_count, row_class}
use Rattle.dex_code.specs.CodeItem.{code_registers, code_ins, code_outs, code_tries, code_len, code_unit, try_place, try_start, try_count, covered_before, handlers_place}
use Rattle.dex_code.specs.HandlerPart.{catch_alls, has_catch_all, try_list}
use Rattle.dex_code.specs.Content.{MemberLists, no_members, CodeContent}

-- what is reached from x by step 0, step 1, .. below n, or the first fault
abbrev pub reached : {X : Type 0} → (ℕ → X → Result X DexFault) → X → ℕ → Result X DexFault
reached step x zero = Ok x
reached step x (suc n) = do
  y ← reached step x n
  step n y

-- the place after the number at a place
abbrev pub number_end : List ℕ → ℕ → Result ℕ DexFault
number_end bs p = do
  number ← uleb_at bs p
  Ok number.1

-- the place after so many numbers
abbrev pub numbers_end : List ℕ → ℕ → ℕ → Result ℕ DexFault
numbers_end bs p n = reached (λ _ q. number_end bs q) p n

-- the index of the last member of a list
abbrev pub last_id : List Member → Option ℕ
last_id members = option_map (λ m. m.id) (slice_get members (length members - 1))

-- the index of a member after this one, or of the first
abbrev pub index_after : Option ℕ → ℕ → ℕ
index_after (Some prior) difference = prior + difference
index_after None difference = difference

-- it is that of the member before it
abbrev pub repeats : Option ℕ → ℕ → Bool
repeats (Some prior) difference = difference == 0
repeats None difference = false

-- a row of the table is of the class
unfoldable pub is_of_class : List ℕ → ℕ → Kind → ℕ → Bool
is_of_class bs class kind i = bytes_eq (type_name bs (row_class bs kind i)) (type_name bs (class_type bs class))

-- a member that a class may have after these
abbrev pub is_own : List ℕ → ℕ → Kind → Option ℕ → ℕ → Bool
is_own bs class kind prior difference =
    if nat_lt (index_after prior difference) (row_count bs kind) then
    (if repeats prior difference then false else is_of_class bs class kind (index_after prior difference))
    else false

-- the code offset at a place: fields have none
abbrev pub code_offset_at : List ℕ → Kind → ℕ → Result (ℕ × ℕ) DexFault
code_offset_at bs Field p = Ok (0, p)
code_offset_at bs Method p = uleb_at bs p

-- the entry at a place, where the member before it has this index, and the place after it
unfoldable pub entry_at : List ℕ → (class : ℕ) → Kind → Option ℕ → ℕ → Result (Member × ℕ) DexFault
entry_at bs class kind prior p = do
  difference ← uleb_at bs p
  flags ← uleb_at bs difference.1
  code ← code_offset_at bs kind flags.1
  if is_own bs class kind prior difference.0
      then Ok (record { id = index_after prior difference.0; flags = flags.0; code = code.0 }, code.1)
      else Err (MemberIndex p)

-- the members of a list so far, and the place after them
pub record ReadMembers : Type 0 where
  pub place : ℕ
  pub members : List Member

-- with one more, where so many members came before the list
unfoldable pub with_entry : List ℕ → (class : ℕ) → Kind → (before : ℕ) → ReadMembers → Result ReadMembers DexFault
with_entry bs class kind before x = do
  entry ← entry_at bs class kind (last_id x.members) x.place
  if nat_lt (limit_of Members) (before + length x.members + 1) then Err (Limit Members)
      else Ok (record { place = entry.1; members = x.members ++ entry.0 ∷ [] })

-- a list of so many members
abbrev pub entries_at : List ℕ → (class : ℕ) → Kind → (before p count : ℕ) → Result ReadMembers DexFault
entries_at bs class kind before p count =
    reached (λ _ x. with_entry bs class kind before x) (record { place = p; members = [] }) count

-- the four lists of class data
unfoldable pub class_data_at : List ℕ → (class p : ℕ) → Result MemberLists DexFault
class_data_at bs class p = do
  static_count ← uleb_at bs p
  instance_count ← uleb_at bs static_count.1
  direct_count ← uleb_at bs instance_count.1
  virtual_count ← uleb_at bs direct_count.1
  statics ← entries_at bs class Field 0 virtual_count.1 static_count.0
  instances ← entries_at bs class Field static_count.0 statics.place instance_count.0
  directs ← entries_at bs class Method (static_count.0 + instance_count.0) instances.place direct_count.0
  virtuals ← entries_at bs class Method (static_count.0 + instance_count.0 + direct_count.0) directs.place virtual_count.0
  Ok (record {
    statics = statics.members;
    instances = instances.members;
    directs = directs.members;
    virtuals = virtuals.members;
  })

-- the members of a class, or the first fault
abbrev pub members_at : List ℕ → (class : ℕ) → Result MemberLists DexFault
members_at bs class = if class_data bs class == 0 then Ok no_members else class_data_at bs class (class_data bs class)

-- the front of the code item at a place, and whether its units lie in the file; gives how many they are
unfoldable pub front_at : List ℕ → ℕ → Result ℕ DexFault
front_at bs p =
    if nat_lt (length bs) (p + 16) then Err (Short p)
    else if nat_lt (code_registers bs p) (code_ins bs p) then Err (Registers p)
    else if nat_lt (length bs) (p + 16 + 2 * code_len bs p) then Err (Short (p + 16))
    else if nat_lt (limit_of Units) (code_len bs p) then Err (Limit Units)
    else Ok (code_len bs p)

-- the range of try t of the code item at p is empty, ends past the units or begins before the last one ended
abbrev pub is_range_bad : List ℕ → (p t : ℕ) → Bool
is_range_bad bs p t =
    (try_count bs p t == 0)
    || nat_lt (code_len bs p) (try_start bs p t + try_count bs p t)
    || nat_lt (try_start bs p t) (covered_before bs p t)

-- the row of try t, in a row of them; gives how many there are
unfoldable pub range_at : List ℕ → (p t : ℕ) → Result ℕ DexFault
range_at bs p t =
    if nat_lt (length bs) (try_place bs p t + 8) then Err (Short (try_place bs p t))
    else if is_range_bad bs p t then Err (TryRange (try_place bs p t))
    else Ok (t + 1)

-- the place after the handler list at a place
unfoldable pub list_end_at : List ℕ → ℕ → Result ℕ DexFault
list_end_at bs q = do
  size ← sleb_at bs q
  numbers_end bs size.1 (2 * unsigned_abs size.0 + catch_alls size.0)

-- where the handler lists so far begin, and the place after them
pub record ReadLists : Type 0 where
  pub place : ℕ
  pub starts : List ℕ

-- with one more
abbrev pub with_list : List ℕ → ReadLists → Result ReadLists DexFault
with_list bs x = do
  end ← list_end_at bs x.place
  Ok (record { place = end; starts = x.starts ++ x.place ∷ [] })

-- so many lists from a place on
abbrev pub lists_at : List ℕ → (place count : ℕ) → Result ReadLists DexFault
lists_at bs place count = reached (λ _ x. with_list bs x) (record { place = place; starts = [] }) count

-- where the lists of a handler part begin
unfoldable pub starts_at : List ℕ → ℕ → Result (List ℕ) DexFault
starts_at bs h = do
  count ← uleb_at bs h
  lists ← lists_at bs count.1 count.0
  Ok lists.starts

-- the handlers so far, and the place after the last
pub record ReadHandlers : Type 0 where
  pub place : ℕ
  pub handlers : List Handler

-- a handler with its address at a place
unfoldable pub with_address : List ℕ → Bounds → Option ℕ → (place : ℕ) → List Handler → Result ReadHandlers DexFault
with_address bs bounds caught place handlers = do
  address ← uleb_at bs place
  if nat_lt address.0 bounds.units then
      (if nat_lt (limit_of Handlers) (length handlers + 1) then Err (Limit Handlers)
      else Ok (record { place = address.1; handlers = handlers ++ record { caught = caught; target = address.0 } ∷ [] }))
      else Err (HandlerAddress place)

-- a handler of one type, for try t
unfoldable pub with_typed : List ℕ → Bounds → (t : ℕ) → ReadHandlers → Result ReadHandlers DexFault
with_typed bs bounds t x = do
  caught ← uleb_at bs x.place
  if nat_lt caught.0 bounds.types then with_address bs bounds (Some caught.0) caught.1 x.handlers
      else Err (Index 1 t caught.0)

-- so many of them
abbrev pub all_typed : List ℕ → Bounds → (t place : ℕ) → List Handler → (count : ℕ) → Result ReadHandlers DexFault
all_typed bs bounds t place handlers count =
    reached (λ _ x. with_typed bs bounds t x) (record { place = place; handlers = handlers }) count

-- the handler of every type, where a list of this size has one
abbrev pub with_last : List ℕ → Bounds → ℤ → ReadHandlers → Result ReadHandlers DexFault
with_last bs bounds size x = if has_catch_all size then with_address bs bounds None x.place x.handlers else Ok x

-- the handlers of the list at q for try t
unfoldable pub with_handlers : List ℕ → Bounds → (t q : ℕ) → List Handler → Result (List Handler) DexFault
with_handlers bs bounds t q handlers = do
  size ← sleb_at bs q
  typed ← all_typed bs bounds t size.1 handlers (unsigned_abs size.0)
  all ← with_last bs bounds size.0 typed
  Ok all.handlers

-- the tries so far, and their handlers
pub record ReadTries : Type 0 where
  pub tries : List TryRow
  pub handlers : List Handler

-- how far the types and the units of the code item at p go
abbrev pub bounds_of : List ℕ → ℕ → Bounds
bounds_of bs p = record { types = type_count bs; units = code_len bs p }

-- the row of try t, where its handlers stand so in the list of all
abbrev pub row_with : List ℕ → (p t before now : ℕ) → TryRow
row_with bs p t before now = record {
  start = try_start bs p t;
  count = try_count bs p t;
  handlers = record { at = before; len = now - before };
}

-- with try t, where these are the beginnings of lists
unfoldable pub with_try : List ℕ → (p : ℕ) → (starts : List ℕ) → (t : ℕ) → ReadTries → Result ReadTries DexFault
with_try bs p starts t x =
    if list_any (λ q. q == try_list bs p t) starts then
    (do
      handlers ← with_handlers bs (bounds_of bs p) t (try_list bs p t) x.handlers
      Ok (record {
        tries = x.tries ++ row_with bs p t (length x.handlers) (length handlers) ∷ [];
        handlers = handlers;
      }))
    else Err (HandlerOffset (try_place bs p t))

abbrev pub no_tries : ReadTries
no_tries = record { tries = []; handlers = [] }

-- so many tries of the code item at p with their handlers
abbrev pub rows_at : List ℕ → (p : ℕ) → (starts : List ℕ) → (count : ℕ) → Result ReadTries DexFault
rows_at bs p starts count = reached (with_try bs p starts) no_tries count

-- the ranges of so many tries
abbrev pub ranges_at : List ℕ → (p count : ℕ) → Result ℕ DexFault
ranges_at bs p count = reached (λ t _. range_at bs p t) 0 count

-- the tries of the code item at p with their handlers
unfoldable pub tries_at : List ℕ → (p : ℕ) → Result ReadTries DexFault
tries_at bs p =
    if code_tries bs p == 0 then Ok no_tries
    else do
      ranges ← ranges_at bs p (code_tries bs p)
      starts ← starts_at bs (handlers_place bs p)
      rows_at bs p starts (code_tries bs p)

-- the code item at a place, or the first fault
unfoldable pub code_at : List ℕ → ℕ → Result CodeContent DexFault
code_at bs p = do
  len ← front_at bs p
  read ← tries_at bs p
  Ok (record {
    registers = code_registers bs p;
    ins = code_ins bs p;
    outs = code_outs bs p;
    units = list_below (code_unit bs p) len;
    tries = read.tries;
    handlers = read.handlers;
  })
