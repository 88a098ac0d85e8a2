-- Payloads: the tables of the switches and the data of an array, as the format page lays them out.
-- `code` are the units from the payload's place on.
use Rattle.std.specs.Prelude.{ℕ, ℤ, List, ◌+◌, ◌*◌, ◌/◌, ◌==◌, nat_lt, if◌then◌else◌, length, drop, map, slice_index, Option, Some, None, option_map}
use Rattle.std.specs.List.{range_with_len}
use Rattle.std.specs.Int.{cast_signed, w32}
use Rattle.dalvik_decode.specs.declared.payloads.Payload.{Payload}
use Rattle.dalvik_decode.specs.declared.payloads.Payload.TheVariants as payload
use Rattle.dalvik_decode.specs.declared.payloads.Head.{Head}
use Rattle.dalvik_decode.specs.declared.payloads.Head.TheVariants as head
use Rattle.dalvik_decode.specs.declared.ident.TheConstants.{PACKED_SWITCH_PAYLOAD, SPARSE_SWITCH_PAYLOAD, FILL_ARRAY_DATA_PAYLOAD}
use Rattle.dalvik_decode.specs.Operands.{word_at}

-- what a payload holds, with lists for the vectors
pub data Content : Type 0 where
  Packed : ℤ → List ℤ → Content
  Sparse : List ℤ → List ℤ → Content
  Array : ℕ → ℕ → Content

abbrev pub content_of : Payload → Content
content_of (payload.Packed first targets) = Packed first targets.items
content_of (payload.Sparse keys targets) = Sparse keys.items targets.items
content_of (payload.Array width count) = Array width count

-- what the first units say: PACKED_SWITCH_PAYLOAD and a count; SPARSE_SWITCH_PAYLOAD and a count;
-- FILL_ARRAY_DATA_PAYLOAD, a width, and a count in two units
unfoldable pub head_from : List ℕ → Option Head
head_from code =
    if slice_index code 0 == PACKED_SWITCH_PAYLOAD then (if nat_lt 1 (length code) then Some (head.Packed (slice_index code 1)) else None)
    else (if slice_index code 0 == SPARSE_SWITCH_PAYLOAD then (if nat_lt 1 (length code) then Some (head.Sparse (slice_index code 1)) else None)
    else (if slice_index code 0 == FILL_ARRAY_DATA_PAYLOAD then (if nat_lt 3 (length code) then Some (head.Array (slice_index code 1) (word_at code 2)) else None)
    else None))

-- the units of the whole payload: behind its count a packed switch has the first key and the targets,
-- a sparse one the keys and the targets, in two units each; an array has its bytes in pairs, the last one filled up
abbrev pub units_under : Head → ℕ
units_under (head.Packed size) = 2 * size + 4
units_under (head.Sparse size) = 4 * size + 2
units_under (head.Array width count) = (count * width + 1) / 2 + 4

-- so many signed numbers of two units each, from a place on
unfoldable pub numbers_at : List ℕ → ℕ → ℕ → List ℤ
numbers_at code place count = map (λ k. cast_signed w32 (word_at code (place + 2 * k))) (range_with_len 0 count)

abbrev pub content_under : Head → List ℕ → Content
content_under (head.Packed size) code = Packed (cast_signed w32 (word_at code 2)) (numbers_at code 4 size)
content_under (head.Sparse size) code = Sparse (numbers_at code 2 size) (numbers_at code (2 + 2 * size) size)
content_under (head.Array width count) code = Array width count

-- a payload stands there where all its units do
abbrev pub whole_under : Option Head → List ℕ → Option Content
whole_under None code = None
whole_under (Some h) code = if nat_lt (length code) (units_under h) then None else Some (content_under h code)

-- the units of the payload at a pc, which may end past the end
abbrev pub payload_len_at : List ℕ → ℕ → Option ℕ
payload_len_at units pc = option_map units_under (head_from (drop pc units))

-- the payload at a pc, where one stands there whole
unfoldable pub content_at : List ℕ → ℕ → Option Content
content_at units pc = whole_under (head_from (drop pc units)) (drop pc units)
