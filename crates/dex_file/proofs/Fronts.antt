-- The header that was read.
use Rattle.std.proofs.Common.{◌≡◌, ◌≤◌, List, ℕ, length, Option, Some, None, Ok, refl}
use Rattle.dex_bytes.specs.declared.fault.DexFault.{DexFault}
use Rattle.dex_bytes.specs.declared.layout.Header.{Header}
use Rattle.dex_bytes.specs.Header.{front_fault_of, fault_with_sums, header_at, header_of, header_or}
use Rattle.dex_bytes.proofs.Faults.{header_read}

or_read : (fault : Option DexFault) (bs : List ℕ) (header : Header) → header_or fault bs ≡ Ok header → header ≡ header_of bs
or_read (Some fault) bs header read = absurd (let no : ⊥ = cc in no)
or_read None bs header read = cc

-- it is where the tables stand
pub front_is : (bs : List ℕ) (header : Header) → header_at bs ≡ Ok header → header ≡ header_of bs
unfolding header_at
front_is bs header read = or_read (fault_with_sums (front_fault_of bs) bs) bs header read

-- and is whole
pub front_whole : (bs : List ℕ) (header : Header) → header_at bs ≡ Ok header → 112 ≤ length bs
front_whole bs header read = (header_read bs (rw read refl)).whole
