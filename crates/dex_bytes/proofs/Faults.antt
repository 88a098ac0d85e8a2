-- What the checks of the header say of a file that passes them.
use Rattle.std.proofs.Common.{◌≡◌, ℕ, ◌≤◌, List, [], ◌∷◌, length, take, drop, slice_index, Bool, true, false, nat_lt, ◌==◌, if◌then◌else◌, IsOk, Option, Some, None, refl, sym, subst, arith}
use Rattle.std.proofs.lemmas.Grind.{common_steps}
use Rattle.std.proofs.lemmas.Bool.Decides.{nat_tests, Decides-eqb}
use Rattle.std.proofs.lemmas.Slice.Eq.{bytes_eq-Decides}
use Rattle.std.specs.Str.{bytes_eq}
use Rattle.sha1.specs.Sha1.{sha1}
use Rattle.dex_bytes.specs.Checksum.{adler_of}
use Rattle.dex_bytes.specs.Header.{has_magic, has_version, has_checksum, has_signature, front_fault_of, fault_with_sums, header_or, header_at, IsHeader}
use Rattle.dex_bytes.specs.Numbers.{u32_at}
use Rattle.dex_bytes.specs.declared.fault.DexFault.{DexFault}
use Rattle.dex_bytes.specs.declared.fault.DexFault.TheVariants.{Checksum, Signature}

-- a file that passes the first checks has a whole header
pub whole_header : (bs : List ℕ) → front_fault_of bs ≡ None → 112 ≤ length bs
unfolding front_fault_of
whole_header bs h = grind (arith, common_steps)

-- what the tests of the first checks say, and of the two sums
front_tests : (bs : List ℕ) → front_fault_of bs ≡ None → (has_magic bs ≡ true) × (has_version bs ≡ true) × (u32_at bs 36 ≡ 112) × (u32_at bs 40 ≡ 305419896) × (u32_at bs 32 ≡ length bs)
unfolding front_fault_of
front_tests bs h = (grind (arith, nat_tests), grind (arith, nat_tests), grind (arith, nat_tests), grind (arith, nat_tests), grind (arith, nat_tests))

magic_tests : (bs : List ℕ) → has_magic bs ≡ true → (bytes_eq (take 4 bs) (100 ∷ 101 ∷ 120 ∷ 10 ∷ []) ≡ true) × (slice_index bs 7 ≡ 0)
magic_tests bs h = (grind (arith, nat_tests), grind (arith, nat_tests))

sum_tests : (checksum signature : Bool) (bs : List ℕ) → IsOk (header_or (if checksum then (if signature then None else Some Signature) else Some Checksum) bs) → (checksum ≡ true) × (signature ≡ true)
sum_tests true true bs h = (refl, refl)
sum_tests true false bs h = absurd (let no : ⊥ = cc in no)
sum_tests false _ bs h = absurd (let no : ⊥ = cc in no)

header_of_tests : (bs : List ℕ) → front_fault_of bs ≡ None → (has_checksum bs ≡ true) × (has_signature bs ≡ true) → IsHeader bs
header_of_tests bs front sums =
    let tests : (has_magic bs ≡ true) × (has_version bs ≡ true) × (u32_at bs 36 ≡ 112) × (u32_at bs 40 ≡ 305419896) × (u32_at bs 32 ≡ length bs) = front_tests bs front in
    record {
      whole = whole_header bs front;
      magic = ((bytes_eq-Decides (take 4 bs) (100 ∷ 101 ∷ 120 ∷ 10 ∷ [])).0 (magic_tests bs tests.0).0, (magic_tests bs tests.0).1);
      version = (bytes_eq-Decides (take 3 (drop 4 bs)) (48 ∷ 51 ∷ 53 ∷ [])).0 tests.1;
      header_size = tests.2;
      endian = tests.3;
      file_size = tests.4;
      checksum = sym ((Decides-eqb (adler_of (drop 12 bs)) (u32_at bs 8)).0 sums.0);
      signature = sym ((bytes_eq-Decides (sha1 (drop 32 bs)) (take 20 (drop 12 bs))).0 sums.1);
    }

-- a header that is read passes each check
pub header_read : (bs : List ℕ) → IsOk (header_at bs) → IsHeader bs
unfolding header_at
header_read bs h =
    (elim (front_fault_of bs) as (λ (f : Option DexFault). front_fault_of bs ≡ f → IsOk (header_or (fault_with_sums f bs) bs) → IsHeader bs) [
      | Some fault ↦ λ is k. absurd (let no : ⊥ = cc in no)
      | None ↦ λ is k. header_of_tests bs is (sum_tests (has_checksum bs) (has_signature bs) bs k)
    ]) refl h

front_passes : (bs : List ℕ) → IsHeader bs → front_fault_of bs ≡ None
unfolding front_fault_of
front_passes bs h =
    let whole : nat_lt (length bs) 112 ≡ false = let n : 112 ≤ length bs = h.whole in grind (arith, nat_tests) in
    let magic : bytes_eq (take 4 bs) (100 ∷ 101 ∷ 120 ∷ 10 ∷ []) ≡ true = (bytes_eq-Decides _ _).1 h.magic.0 in
    let zero_byte : (slice_index bs 7 == 0) ≡ true = (Decides-eqb _ _).1 h.magic.1 in
    let version : has_version bs ≡ true = (bytes_eq-Decides _ _).1 h.version in
    let header_size : (u32_at bs 36 == 112) ≡ true = (Decides-eqb _ _).1 h.header_size in
    let endian : (u32_at bs 40 == 305419896) ≡ true = (Decides-eqb _ _).1 h.endian in
    let file_size : (u32_at bs 32 == length bs) ≡ true = (Decides-eqb _ _).1 h.file_size in
    rw (whole, magic, zero_byte, version, header_size, endian, file_size) refl

sums_pass : (checksum signature : Bool) (bs : List ℕ) → checksum ≡ true → signature ≡ true → IsOk (header_or (if checksum then (if signature then None else Some Signature) else Some Checksum) bs)
sums_pass true true bs p q = refl
sums_pass true false bs p q = absurd (let no : ⊥ = cc in no)
sums_pass false _ bs p q = absurd (let no : ⊥ = cc in no)

-- a header that passes each check is read
pub passing_header : (bs : List ℕ) → IsHeader bs → IsOk (header_at bs)
unfolding header_at
passing_header bs h =
    let P : Option DexFault → Type 0 = λ f. IsOk (header_or (fault_with_sums f bs) bs) in
    subst P (sym (front_passes bs h))
    (sums_pass (has_checksum bs) (has_signature bs) bs
    ((Decides-eqb _ _).1 (sym h.checksum))
    ((bytes_eq-Decides _ _).1 (sym h.signature)))
