-- A certificate has one verdict over a subject.
use Rattle.std.proofs.Common.{◌≡◌, ◌<◌, ℕ, zero, suc, List, [], ◌∷◌, length, refl, sym, ap, ◌∙◌, inl, inr, arith}
use Rattle.std.specs.Prelude.{slice_index}
use Rattle.std.proofs.lemmas.Bool.{cases_lt}
use Rattle.app_model.specs.Subject.{SubjectParts}
use Rattle.certificate.specs.Parts.{CertParts}
use Rattle.cert_check.specs.Verdict.{IsVerdict, Precedes, order, rule_number}
use Rattle.cert_check.specs.declared.verdict.Checked.{Checked}
use Rattle.cert_check.specs.declared.verdict.Checked.TheVariants.{Broken, DexDigest, ListDigest, Shape, Unmet, Valid}
use Rattle.cert_check.specs.declared.verdict.Rule.{Rule}
use Rattle.cert_check.specs.declared.verdict.Rule.TheVariants.{C1, C2, C3, I1, I2, I3, V1, V2, V3, V4, V5}

-- ---- numbers, none of which come before the others
not_below : (x y : ℕ) → ¬ (x < y) → ¬ (y < x) → x ≡ y
not_below x y one other =
    elim (cases_lt x y) [
      | inl lt ↦ absurd (one lt)
      | inr ge ↦ elim (cases_lt y x) [ inl lt ↦ absurd (other lt) | inr le ↦ omega arith ]
    ]

same_numbers : (xs ys : List ℕ) → length xs ≡ length ys → ¬ Precedes xs ys → ¬ Precedes ys xs → xs ≡ ys
same_numbers [] [] len one other = refl
same_numbers [] (y ∷ ys) len one other = absurd (omega (arith, len))
same_numbers (x ∷ xs) [] len one other = absurd (omega (arith, len))
same_numbers (x ∷ xs) (y ∷ ys) len one other =
    let first : x ≡ y = not_below x y (λ lt. one (inl lt)) (λ lt. other (inl lt)) in
    let rest : xs ≡ ys = same_numbers xs ys (omega (arith, len)) (λ before. one (inr (first, before))) (λ before. other (inr (sym first, before))) in
    ap (λ (n : ℕ). n ∷ xs) first ∙ ap (λ (ns : List ℕ). y ∷ ns) rest

-- ---- an answer by its numbers
abbrev rule_at : ℕ → Rule
rule_at zero = V1
rule_at (suc zero) = V2
rule_at (suc (suc zero)) = V3
rule_at (suc (suc (suc zero))) = V4
rule_at (suc (suc (suc (suc zero)))) = V5
rule_at (suc (suc (suc (suc (suc zero))))) = I1
rule_at (suc (suc (suc (suc (suc (suc zero)))))) = I2
rule_at (suc (suc (suc (suc (suc (suc (suc zero))))))) = I3
rule_at (suc (suc (suc (suc (suc (suc (suc (suc zero)))))))) = C1
rule_at (suc (suc (suc (suc (suc (suc (suc (suc (suc zero))))))))) = C2
rule_at (suc (suc (suc (suc (suc (suc (suc (suc (suc (suc n)))))))))) = C3

rule_again : (rule : Rule) → rule_at (rule_number rule) ≡ rule
rule_again V1 = refl
rule_again V2 = refl
rule_again V3 = refl
rule_again V4 = refl
rule_again V5 = refl
rule_again I1 = refl
rule_again I2 = refl
rule_again I3 = refl
rule_again C1 = refl
rule_again C2 = refl
rule_again C3 = refl

abbrev answer_at : ℕ → List ℕ → Checked
answer_at zero ns = ListDigest
answer_at (suc zero) ns = DexDigest (slice_index ns 0)
answer_at (suc (suc zero)) ns = Shape (slice_index ns 0)
answer_at (suc (suc (suc zero))) ns = Broken (rule_at (slice_index ns 1)) (slice_index ns 0) (slice_index ns 2) (slice_index ns 3) (slice_index ns 4)
answer_at (suc (suc (suc (suc zero)))) ns = Unmet (slice_index ns 0) (slice_index ns 1) (slice_index ns 2) (slice_index ns 3)
answer_at (suc (suc (suc (suc (suc n))))) ns = Valid

abbrev answer_of : List ℕ → Checked
answer_of [] = Valid
answer_of (n ∷ ns) = answer_at n ns

answer_again : (answer : Checked) → answer_of (order answer) ≡ answer
answer_again ListDigest = refl
answer_again (DexDigest i) = refl
answer_again (Shape l) = refl
answer_again (Broken rule l a b c) = ap (λ (r : Rule). Broken r l a b c) (rule_again rule)
answer_again (Unmet c k l s) = refl
answer_again Valid = refl

-- ---- the first number tells how many there are
abbrev count_at : ℕ → ℕ
count_at zero = 1
count_at (suc zero) = 2
count_at (suc (suc zero)) = 2
count_at (suc (suc (suc zero))) = 6
count_at (suc (suc (suc (suc zero)))) = 5
count_at (suc (suc (suc (suc (suc n))))) = 1

record AreNumbers (numbers : List ℕ) : Type 0 where
  first : ℕ
  rest : List ℕ
  is : numbers ≡ first ∷ rest
  count : length numbers ≡ count_at first

numbers_of : (answer : Checked) → AreNumbers (order answer)
numbers_of ListDigest = record { first = 0; rest = []; is = refl; count = refl }
numbers_of (DexDigest i) = record { first = 1; rest = i ∷ []; is = refl; count = refl }
numbers_of (Shape l) = record { first = 2; rest = l ∷ []; is = refl; count = refl }
numbers_of (Broken rule l a b c) = record { first = 3; rest = l ∷ rule_number rule ∷ a ∷ b ∷ c ∷ []; is = refl; count = refl }
numbers_of (Unmet c k l s) = record { first = 4; rest = c ∷ k ∷ l ∷ s ∷ []; is = refl; count = refl }
numbers_of Valid = record { first = 5; rest = []; is = refl; count = refl }

same_count : (xs ys : List ℕ) → AreNumbers xs → AreNumbers ys → ¬ Precedes xs ys → ¬ Precedes ys xs → length xs ≡ length ys
same_count xs ys a b one other =
    let left : ¬ Precedes (a.first ∷ a.rest) (b.first ∷ b.rest) = rw (a.is, b.is) at one in
    let right : ¬ Precedes (b.first ∷ b.rest) (a.first ∷ a.rest) = rw (a.is, b.is) at other in
    a.count ∙ ap count_at (not_below a.first b.first (λ lt. left (inl lt)) (λ lt. right (inl lt))) ∙ sym b.count

same_answer : (a b : Checked) → ¬ Precedes (order a) (order b) → ¬ Precedes (order b) (order a) → a ≡ b
same_answer a b one other =
    sym (answer_again a) ∙ ap answer_of (same_numbers (order a) (order b) (same_count (order a) (order b) (numbers_of a) (numbers_of b) one other) one other) ∙ answer_again b

pub one_verdict : (x : SubjectParts) (list : List ℕ) (dex : List (List ℕ)) (cert : CertParts) (a b : Checked) → IsVerdict x list dex cert a → IsVerdict x list dex cert b → a ≡ b
one_verdict x list dex cert a b one other = same_answer a b (λ before. other.first a before one.says) (λ before. one.first b before other.says)
