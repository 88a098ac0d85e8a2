-- The union of the masks of callees.
use Rattle.std.proofs.Common.{◌≡◌, ℕ, ◌+◌, ◌<◌, ◌≤◌, List, length, true, Some, sym, ap, ◌∙◌, subst, ⊎_elim, arith, Contains, get_or, bit_or, eq-eqb, eqb-true}
use Rattle.std.specs.Prelude.{slice_get, ◌==◌, nat_lt}
use Rattle.std.specs.Int.{bit_at}
use Rattle.std.proofs.lemmas.Bool.{and_from, and_parts, cases_eq}
use Rattle.std.proofs.lemmas.List.{get_or_default}
use Rattle.std.proofs.lemmas.Nat.Bits.{bit_at-zero}
use Rattle.std.proofs.lemmas.Option.{get_or_from_slice_get, slice_get-get_or, slice_get_within}
use Rattle.ns_base.specs.declared.rows.MethodNo.{MethodNo}
use Rattle.app_model.specs.CallGraph.{callees_at}
use Rattle.app_model.specs.Masks.{in_lock_mask}
use Rattle.call_reach.proofs.Bits.{or_bit, or_left, or_right}
use Rattle.tag_flow.specs.Known.{KnownParts, is_gone}
use Rattle.tag_flow.specs.Turns.{IsUnion}

-- ---- the masks of the first callees
pub record IsPart (k : KnownParts) (callees : List MethodNo) (bound gone : ℕ) : Type 0 where
  pub only : (l : ℕ) → in_lock_mask gone l ≡ true → (x : ℕ) × (n : MethodNo) × (x < bound) × (slice_get callees x ≡ Some n) × (is_gone k n.0 l ≡ true)
  pub all : (x : ℕ) (n : MethodNo) (l : ℕ) → x < bound → slice_get callees x ≡ Some n → is_gone k n.0 l ≡ true → in_lock_mask gone l ≡ true

pub part_none : (k : KnownParts) (callees : List MethodNo) → IsPart k callees 0 0
part_none k callees = record {
  only = λ l on. absurd (let bit : bit_at 0 l ≡ 1 = eqb-true (bit_at 0 l) 1 (and_parts (nat_lt l 64) (bit_at 0 l == 1) on).1 in let off = bit_at-zero l in omega (arith, bit, off));
  all = λ x n l lt. absurd (omega (arith, lt));
}

pub part_more : (k : KnownParts) (callees : List MethodNo) (i gone word : ℕ) (n : MethodNo) → slice_get callees i ≡ Some n → word ≡ get_or k.masks n.0 0 → IsPart k callees i gone → IsPart k callees (i + 1) (bit_or gone word)
part_more k callees i gone word n at is part = record { only = only; all = all }
  where
    only : (l : ℕ) → in_lock_mask (bit_or gone word) l ≡ true → (x : ℕ) × (n : MethodNo) × (x < i + 1) × (slice_get callees x ≡ Some n) × (is_gone k n.0 l ≡ true)
    only l on =
        let both = and_parts _ _ on in
        ⊎_elim
        (λ old. (let by = part.only l (and_from _ _ both.0 (eq-eqb (bit_at gone l) 1 old)) in (by.0, by.1, omega (arith, by.2), by.3, by.4)))
        (λ new. (i, n, omega arith, at, subst (λ w. in_lock_mask w l ≡ true) is (and_from _ _ both.0 (eq-eqb (bit_at word l) 1 new))))
        (or_bit gone word l (eqb-true (bit_at (bit_or gone word) l) 1 both.1))

    all : (x : ℕ) (n : MethodNo) (l : ℕ) → x < i + 1 → slice_get callees x ≡ Some n → is_gone k n.0 l ≡ true → in_lock_mask (bit_or gone word) l ≡ true
    all x other l lt there on = ⊎_elim
        (λ here. (let same : n ≡ other = (let both : Some n ≡ Some other = sym at ∙ ap (slice_get callees) (sym here) ∙ there in cc) in
        let set_bit : in_lock_mask word l ≡ true = subst (λ w. in_lock_mask w l ≡ true) (sym is) (subst (λ (m : MethodNo). is_gone k m.0 l ≡ true) (sym same) on) in
        let both = and_parts _ _ set_bit in
        and_from _ _ both.0 (eq-eqb (bit_at (bit_or gone word) l) 1 (or_right gone word l (eqb-true (bit_at word l) 1 both.1)))))
        (λ ne. (let both = and_parts _ _ (part.all x other l (omega (arith, lt, ne)) there on) in
        and_from _ _ both.0 (eq-eqb (bit_at (bit_or gone word) l) 1 (or_left gone word l (eqb-true (bit_at gone l) 1 both.1)))))
        (cases_eq x i)

pub part_whole : (k : KnownParts) (m i gone bound : ℕ) (callees : List MethodNo) → callees ≡ callees_at k.graph m i → 0 < length callees → length callees ≤ bound → IsPart k callees bound gone → IsUnion k m i gone
part_whole k m i gone bound callees is some_one end part = part_union
  where
    part_union : IsUnion k m i gone
    part_union = record {
      some_callee = (get_or callees 0 first, subst (λ (ns : List MethodNo). Contains ns (get_or callees 0 first)) is (0, some_one, same_default));
      only = λ l on. (let by = part.only l on in (by.1, subst (λ (ns : List MethodNo). Contains ns by.1) is (by.0, slice_get_within callees by.0 by.1 by.3, get_or_from_slice_get callees by.0 by.1 by.1 by.3), by.4));
      all = λ n l there on. (let has = subst (λ (ns : List MethodNo). Contains ns n) (sym is) there in part.all has.0 n l (omega (arith, has.1, end)) (slice_get-get_or callees has.0 n has.1 ∙ ap Some has.2) on);
    }
      where
        first : MethodNo
        first = record { 0 = 0 }

        same_default : get_or callees 0 (get_or callees 0 first) ≡ get_or callees 0 first
        same_default = get_or_default callees 0 (get_or callees 0 first) first some_one
