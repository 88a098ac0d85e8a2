-- LEB128 numbers at any place.
use Rattle.std.proofs.Common.{◌≡◌, ℕ, ℤ, Result, ◌+◌, ◌<◌, ◌≤◌, List, [], ◌∷◌, ◌++◌, length, drop, Ok, Err, refl, ap, arith}
use Rattle.std.proofs.Math.ListN.{drop_of_length-le}
use Rattle.dex_bytes.specs.declared.fault.DexFault.{DexFault}
use Rattle.dex_bytes.specs.declared.fault.DexFault.TheVariants.{Short}
use Rattle.dex_code.specs.Reading.{number_end, ReadLists, with_list, list_end_at}
use Rattle.dex_bytes.specs.Leb128.{groups_of, uleb_of, uleb_at, spelled_by, spelled_at, sleb_of, sleb_at, twos_complement, sign_weight}
use Rattle.dex_bytes.specs.Places.{uleb_next}
use Rattle.dex_bytes.proofs.Leb.{uleb_at-ok}

-- past the end stands no number
pub uleb_past : (bs : List ℕ) (p : ℕ) → length bs < p → uleb_at bs p ≡ Err (Short p)
unfolding uleb_at
uleb_past bs p past =
    let none : drop p bs ≡ [] = drop_of_length-le bs (omega arith) in
    ap (λ (xs : List ℕ). uleb_of p (groups_of 5 xs)) none

pub sleb_past : (bs : List ℕ) (p : ℕ) → length bs < p → sleb_at bs p ≡ Err (Short p)
unfolding sleb_at spelled_at
sleb_past bs p past =
    let none : drop p bs ≡ [] = drop_of_length-le bs (omega arith) in
    ap (λ (xs : List ℕ). sleb_of p (spelled_by p (groups_of 5 xs))) none

pub number_end-err : (bs : List ℕ) (p : ℕ) (e : DexFault) → uleb_at bs p ≡ Err e → number_end bs p ≡ Err e
number_end-err bs p e one = rw one refl

-- a number ends behind its place
pub uleb_later : (bs : List ℕ) (p : ℕ) (r : ℕ × ℕ) → uleb_at bs p ≡ Ok r → p ≤ r.1
unfolding uleb_next
uleb_later bs p r e = let pair = uleb_at-ok bs p r e in omega (arith, ap (λ (x : ℕ × ℕ). x.1) pair)

sleb_of-later : (p : ℕ) (spelled : Result (ℕ × ℕ) DexFault) (r : ℤ × ℕ) → sleb_of p spelled ≡ Ok r → p ≤ r.1
sleb_of-later p (Ok (bits, count)) r e =
    let pair : (twos_complement (sign_weight count) bits, p + count) ≡ r = cc in
    omega (arith, ap (λ (x : ℤ × ℕ). x.1) pair)
sleb_of-later p (Err fault) r e = absurd (let no : ⊥ = cc in no)

pub sleb_later : (bs : List ℕ) (p : ℕ) (r : ℤ × ℕ) → sleb_at bs p ≡ Ok r → p ≤ r.1
unfolding sleb_at
sleb_later bs p r e = sleb_of-later p (spelled_at bs p) r e

-- a handler list more
pub with_list-err : (bs : List ℕ) (x : ReadLists) (e : DexFault) → list_end_at bs x.place ≡ Err e → with_list bs x ≡ Err e
with_list-err bs x e one = rw one refl

pub with_list-ok : (bs : List ℕ) (x : ReadLists) (end : ℕ) (starts : List ℕ) → list_end_at bs x.place ≡ Ok end → starts ≡ x.starts ++ x.place ∷ [] → with_list bs x ≡ Ok (record { place = end; starts = starts })
with_list-ok bs x end starts one all = rw (one, all) refl
