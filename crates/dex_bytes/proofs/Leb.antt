-- What an accepted LEB128 number says of its place.
use Rattle.std.proofs.Common.{◌≡◌, ℕ, zero, suc, ◌+◌, ◌<◌, ◌≤◌, List, [], ◌∷◌, length, drop, Bool, true, false, nat_lt, ◌&&◌, ◌||◌, cond, Result, Ok, Err, refl, sym, ap, subst, arith, length-drop, ◌∙◌}
use Rattle.std.proofs.Math.ListN.{drop_of_length-le}
use Rattle.dex_bytes.specs.declared.fault.DexFault.{DexFault}
use Rattle.dex_bytes.specs.declared.fault.DexFault.TheVariants.{Short, Leb}
use Rattle.dex_bytes.specs.Leb128.{groups_of, group_sum, ends_at_most, is_cut, uleb_of, uleb_at}
use Rattle.dex_bytes.specs.Places.{uleb_value, uleb_next, IsUleb, number_place, number_at}

ended : (b : ℕ) (more bs : List ℕ) (t : Bool) → length more ≤ length bs → length (b ∷ cond t [] more) ≤ length (b ∷ bs)
ended b more bs true le = omega arith
ended b more bs false le = omega arith

pub length-groups_of-le : (n : ℕ) (bs : List ℕ) → length (groups_of n bs) ≤ length bs
length-groups_of-le zero bs = omega arith
length-groups_of-le (suc n) [] = omega arith
length-groups_of-le (suc n) (b ∷ bs) = ended b (groups_of n bs) bs (nat_lt b 128) (length-groups_of-le n bs)

accepted : (p : ℕ) (groups : List ℕ) (cut ok : Bool) (r : ℕ × ℕ) → cond cut (Err (Short p)) (cond ok (Ok (group_sum groups, p + length groups)) (Err (Leb p))) ≡ Ok r → r ≡ (group_sum groups, p + length groups)
accepted p groups true ok r e = cc
accepted p groups false true r e = cc
accepted p groups false false r e = cc

-- an accepted number is the one that the groups spell
pub uleb_at-ok : (bs : List ℕ) (p : ℕ) (r : ℕ × ℕ) → uleb_at bs p ≡ Ok r → r ≡ (uleb_value bs p, uleb_next bs p)
unfolding uleb_at uleb_value uleb_next
uleb_at-ok bs p r e = accepted p (groups_of 5 (drop p bs)) _ _ r e

pub IsUleb-ok : (bs : List ℕ) (p : ℕ) (r : ℕ × ℕ) → uleb_at bs p ≡ Ok r → IsUleb bs p
unfolding IsUleb
IsUleb-ok bs p r e = e ∙ ap (λ (x : ℕ × ℕ). Ok x) (uleb_at-ok bs p r e)

pub uleb_next-le : (bs : List ℕ) (p : ℕ) → p ≤ length bs → uleb_next bs p ≤ length bs
unfolding uleb_next
uleb_next-le bs p within = omega (arith, length-groups_of-le 5 (drop p bs), length-drop p bs)

-- what is known of a number that was found
pub IsUleb-found : (bs : List ℕ) (p : ℕ) (r : ℕ × ℕ) → p ≤ length bs → uleb_at bs p ≡ Ok r → IsUleb bs p × (r.0 ≡ uleb_value bs p) × (r.1 ≡ uleb_next bs p) × (r.1 ≤ length bs)
IsUleb-found bs p r within e =
    let pair = uleb_at-ok bs p r e in
    let next : r.1 ≡ uleb_next bs p = ap (λ (x : ℕ × ℕ). x.1) pair in
    (IsUleb-ok bs p r e, ap (λ (x : ℕ × ℕ). x.0) pair, next, omega (arith, next, uleb_next-le bs p within))

pub IsUleb-err : (bs : List ℕ) (p : ℕ) (e : DexFault) → uleb_at bs p ≡ Err e → IsUleb bs p → ⊥
unfolding IsUleb
IsUleb-err bs p e err ok = cc

-- past the end stands no number
pub IsUleb-past : (bs : List ℕ) (p : ℕ) → length bs < p → IsUleb bs p → ⊥
unfolding uleb_at
IsUleb-past bs p past ok =
    let none : drop p bs ≡ [] = drop_of_length-le bs (omega arith) in
    IsUleb-err bs p (Short p) (ap (λ (xs : List ℕ). uleb_of p (groups_of 5 xs)) none) ok

-- numbers that stand one after another
pub number_place-zero : (bs : List ℕ) (p : ℕ) → number_place bs p 0 ≡ p
unfolding number_place
number_place-zero bs p = refl

pub number_place-next : (bs : List ℕ) (p k : ℕ) → number_place bs p (k + 1) ≡ uleb_next bs (number_place bs p k)
unfolding number_place
number_place-next bs p k = let e : k + 1 ≡ suc k = omega arith in ap (number_place bs p) e

pub number_at-place : (bs : List ℕ) (p k : ℕ) → number_at bs p k ≡ uleb_value bs (number_place bs p k)
unfolding number_at
number_at-place bs p k = refl
