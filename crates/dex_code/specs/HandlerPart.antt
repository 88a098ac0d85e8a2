-- The handler part of a code item by offsets: an unsigned number says how many lists follow. A list
-- begins with a signed size. As many pairs follow as its absolute value says, of a type and an address
-- each, and where it is at most 0 the address of a handler that catches every type. All numbers are in
-- LEB128.
use Rattle.std.specs.Prelude.{ℕ, ℤ, pos, zero, suc, Bool, int_le, ◌+◌, ◌*◌, ◌<◌, ◌≡◌, List, unsigned_abs, nat_lt, if◌then◌else◌, Some, None, Result, Ok, Err}
use Rattle.dex_bytes.specs.declared.fault.DexFault.{DexFault}
use Rattle.dex_bytes.specs.Leb128.{sleb_at}
use Rattle.dex_bytes.specs.Places.{IsUleb, uleb_value, uleb_next, number_at, number_place}
use Rattle.dex_tables.specs.Rows.{type_count}
use Rattle.dex_tables.specs.Sound.{sum_below}
use Rattle.dex_code.specs.declared.code.Handler.{Handler}
use Rattle.dex_code.specs.declared.code.TryRow.{TryRow}
use Rattle.dex_code.specs.CodeItem.{code_len, try_start, try_count, try_offset, handlers_place}

-- a signed number that was read and the place after it; 0 and the place itself where none stands there
abbrev pub signed_or : ℕ → Result (ℤ × ℕ) DexFault → ℤ × ℕ
signed_or p (Ok read) = read
signed_or p (Err fault) = (pos 0, p)

-- the size with which a list begins
unfoldable pub list_size : List ℕ → ℕ → ℤ
list_size bs q = (signed_or q (sleb_at bs q)).0

-- the place after it
unfoldable pub list_body : List ℕ → ℕ → ℕ
list_body bs q = (signed_or q (sleb_at bs q)).1

unfoldable pub IsSized : List ℕ → ℕ → Type 0
IsSized bs q = sleb_at bs q ≡ Ok (list_size bs q, list_body bs q)

-- a list of this size has a handler that catches every type
abbrev pub has_catch_all : ℤ → Bool
has_catch_all size = int_le size (pos 0)

abbrev pub catch_alls : ℤ → ℕ
catch_alls size = if has_catch_all size then 1 else 0

-- how many handlers of one type the list at q has
abbrev pub typed_count : List ℕ → ℕ → ℕ
typed_count bs q = unsigned_abs (list_size bs q)

-- how many handlers it has
abbrev pub handler_count : List ℕ → ℕ → ℕ
handler_count bs q = typed_count bs q + catch_alls (list_size bs q)

-- how many numbers follow its size
abbrev pub list_numbers : List ℕ → ℕ → ℕ
list_numbers bs q = 2 * typed_count bs q + catch_alls (list_size bs q)

-- the place after it
unfoldable pub list_end : List ℕ → ℕ → ℕ
list_end bs q = number_place bs (list_body bs q) (list_numbers bs q)

-- all numbers of the list at q are there
pub record IsList (bs : List ℕ) (q : ℕ) : Type 0 where
  pub size : IsSized bs q
  pub numbers : (k : ℕ) → k < list_numbers bs q → IsUleb bs (number_place bs (list_body bs q) k)

-- where list j of the handler part at h begins
unfoldable pub list_place : List ℕ → ℕ → ℕ → ℕ
list_place bs h zero = uleb_next bs h
list_place bs h (suc j) = list_end bs (list_place bs h j)

-- a list of the handler part at h begins at q
abbrev pub BeginsList : List ℕ → ℕ → ℕ → Type 0
BeginsList bs h q = (j : ℕ) × (j < uleb_value bs h) × (list_place bs h j ≡ q)

-- all lists of the handler part at h are there
pub record IsHandlerPart (bs : List ℕ) (h : ℕ) : Type 0 where
  pub count : IsUleb bs h
  pub lists : (j : ℕ) → j < uleb_value bs h → IsList bs (list_place bs h j)

-- which number after the size is the address of handler k of the list at q
abbrev pub address_number : List ℕ → ℕ → ℕ → ℕ
address_number bs q k = if nat_lt k (typed_count bs q) then 2 * k + 1 else 2 * k

-- handler k of the list at q: the type that is caught, where it is one, and the address
abbrev pub handler_of : List ℕ → ℕ → ℕ → Handler
handler_of bs q k = record {
  caught = if nat_lt k (typed_count bs q) then Some (number_at bs (list_body bs q) (2 * k)) else None;
  target = number_at bs (list_body bs q) (address_number bs q k);
}

-- the type of handler k is one, and its address is a unit of the code item at p
pub record IsSoundHandler (bs : List ℕ) (p q k : ℕ) : Type 0 where
  pub caught : k < typed_count bs q → number_at bs (list_body bs q) (2 * k) < type_count bs
  pub target : number_at bs (list_body bs q) (address_number bs q k) < code_len bs p

-- the place of the list that try t of the code item at p names
abbrev pub try_list : List ℕ → ℕ → ℕ → ℕ
try_list bs p t = handlers_place bs p + try_offset bs p t

-- how many handlers come before those of try t
abbrev pub handlers_before : List ℕ → ℕ → ℕ → ℕ
handlers_before bs p t = sum_below (λ u. handler_count bs (try_list bs p u)) t

-- what the row of try t says, and which of all handlers are its own
abbrev pub try_row : List ℕ → ℕ → ℕ → TryRow
try_row bs p t = record {
  start = try_start bs p t;
  count = try_count bs p t;
  handlers = record { at = handlers_before bs p t; len = handler_count bs (try_list bs p t) };
}
