-- The header of a DEX file.
use Rattle.std.specs.Prelude.{ℕ, ◌≡◌, ◌≤◌, ◌+◌, List, [], ◌∷◌, length, take, drop, Bool, nat_lt, ◌&&◌, ◌==◌, if◌then◌else◌, slice_index, Option, Some, None, Result, Ok, Err}
use Rattle.sha1.specs.Sha1.{sha1}
use Rattle.std.specs.Str.{bytes_eq}
use Rattle.dex_bytes.specs.Checksum.{adler_of}
use Rattle.dex_bytes.specs.Numbers.{u32_at}
use Rattle.dex_bytes.specs.declared.fault.DexFault.{DexFault}
use Rattle.dex_bytes.specs.declared.fault.DexFault.TheVariants.{Short, Magic, Version, HeaderSize, Endian, FileSize, Checksum, Signature}
use Rattle.dex_bytes.specs.declared.layout.Part.{Part}
use Rattle.dex_bytes.specs.declared.layout.Header.{Header}

-- the size and the offset of a table, as the header gives them
abbrev pub part_at : List ℕ → ℕ → Part
part_at bs p = record { size = u32_at bs p; off = u32_at bs (p + 4) }

-- where the header says that the tables stand
abbrev pub header_of : List ℕ → Header
header_of bs = record {
  strings = part_at bs 56;
  types = part_at bs 64;
  protos = part_at bs 72;
  fields = part_at bs 80;
  methods = part_at bs 88;
  classes = part_at bs 96;
}

-- "dex", a line feed, and after the version a zero byte
abbrev pub has_magic : List ℕ → Bool
has_magic bs = bytes_eq (take 4 bs) (100 ∷ 101 ∷ 120 ∷ 10 ∷ []) && (slice_index bs 7 == 0)

-- version 035
abbrev pub has_version : List ℕ → Bool
has_version bs = bytes_eq (take 3 (drop 4 bs)) (48 ∷ 51 ∷ 53 ∷ [])

-- the first of the header's checks that fails, the two sums aside
unfoldable pub front_fault_of : List ℕ → Option DexFault
front_fault_of bs =
    if nat_lt (length bs) 112 then Some (Short 0)
    else if has_magic bs then
    (if has_version bs then
    (if u32_at bs 36 == 112 then
    (if u32_at bs 40 == 305419896 then
    (if u32_at bs 32 == length bs then None else Some FileSize)
    else Some Endian)
    else Some HeaderSize)
    else Some Version)
    else Some Magic

-- the checksum is the Adler-32 of all bytes after it
abbrev pub has_checksum : List ℕ → Bool
has_checksum bs = adler_of (drop 12 bs) == u32_at bs 8

-- the signature is the SHA-1 of all bytes after it
abbrev pub has_signature : List ℕ → Bool
has_signature bs = bytes_eq (sha1 (drop 32 bs)) (take 20 (drop 12 bs))

-- the first of all the header's checks that fails, where this is the first without the two sums
abbrev pub fault_with_sums : Option DexFault → List ℕ → Option DexFault
fault_with_sums (Some fault) bs = Some fault
fault_with_sums None bs =
    if has_checksum bs then
    (if has_signature bs then None else Some Signature)
    else Some Checksum

-- the header, where there is no fault
abbrev pub header_or : Option DexFault → List ℕ → Result Header DexFault
header_or (Some fault) bs = Err fault
header_or None bs = Ok (header_of bs)

-- the header, or the first of its checks that fails
unfoldable pub header_at : List ℕ → Result Header DexFault
header_at bs = header_or (fault_with_sums (front_fault_of bs) bs) bs

-- a header that passes each check
pub record IsHeader (bs : List ℕ) : Type 0 where
  pub whole : 112 ≤ length bs
  pub magic : (take 4 bs ≡ 100 ∷ 101 ∷ 120 ∷ 10 ∷ []) × (slice_index bs 7 ≡ 0)
  pub version : take 3 (drop 4 bs) ≡ 48 ∷ 51 ∷ 53 ∷ []
  pub header_size : u32_at bs 36 ≡ 112
  pub endian : u32_at bs 40 ≡ 305419896
  pub file_size : u32_at bs 32 ≡ length bs
  pub checksum : u32_at bs 8 ≡ adler_of (drop 12 bs)
  pub signature : take 20 (drop 12 bs) ≡ sha1 (drop 32 bs)
