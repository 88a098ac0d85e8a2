-- The tests of one instruction.
use Rattle.std.proofs.Common.{◌≡◌, ◌<◌, ◌≤◌, ℕ, Bool, true, false, List, length, get_or, Some, None, refl, sym, ap, ◌∙◌, subst, ⊎_elim, arith}
use Rattle.std.specs.Prelude.{◌↔◌, IsTrue, Contains, slice_get}
use Rattle.std.proofs.lemmas.Bool.{cases_lt, false≢true}
use Rattle.std.proofs.lemmas.List.{get_or_default}
use Rattle.std.proofs.lemmas.Option.{slice_get-get_or, slice_get_read}
use Rattle.ns_base.specs.declared.rows.MethodNo.{MethodNo}
use Rattle.app_model.specs.Masks.{in_mask}
use Rattle.app_model.specs.Subject.{callees_at}
use Rattle.app_model.specs.Words.{successor_at, handler_at}
use Rattle.cert_facts.specs.Cases.{Spot, IsSpot}
use Rattle.cert_check.specs.Tests.{Misses, PassesTo, HandlesTo, CallOut, CallsOut}
use Rattle.cert_facts.specs.Entries.{before, masks_of}
use Rattle.cert_check.specs.declared.verdict.Rule.{Rule}
use Rattle.cert_check.proofs.Searches.{NoneBelow}
use Rattle.cert_check.proofs.Missing.{misses_as}
use Rattle.cert_check.proofs.Ways.{successor_few, handler_few, no_successor, no_handler}

module _ (t : Spot) where
  pub passes_one : (s k j mask there : ℕ) (b : Bool) → successor_at t.entry.case.subject.app t.entry.method t.index k ≡ Some j → mask ≡ (masks_of t).passes t.entry.method t.index k s
      → ((u : ℕ) → in_mask there u ≡ before t.entry j u) → (IsTrue b ↔ Misses (in_mask mask) (in_mask there)) → IsTrue b ↔ PassesTo t s k
  passes_one s k j mask there b at is reads test = (
    (λ h. (j, at, misses_as _ _ _ _ (λ u. ap (λ n. in_mask n u) is) reads (test.0 h))),
    (λ z. (let same : z.0 ≡ j = (let other = z.1 in cc) in test.1 (misses_as _ _ _ _ (λ u. ap (λ n. in_mask n u) (sym is)) (λ u. ap (λ i. before t.entry i u) same ∙ sym (reads u)) z.2))),
  )

  pub handles_one : (led k j there : ℕ) (b : Bool) → handler_at t.entry.case.subject.app t.entry.method t.index k ≡ Some j
      → ((u : ℕ) → in_mask there u ≡ before t.entry j u) → (IsTrue b ↔ Misses (in_mask led) (in_mask there)) → IsTrue b ↔ HandlesTo t (in_mask led) k
  handles_one led k j there b at reads test = (
    (λ h. (j, at, misses_as _ _ _ _ (λ u. refl) reads (test.0 h))),
    (λ z. (let same : z.0 ≡ j = (let other = z.1 in cc) in test.1 (misses_as _ _ _ _ (λ u. refl) (λ u. ap (λ i. before t.entry i u) same ∙ sym (reads u)) z.2))),
  )

  -- where the search comes to no way, or to the end
  module _ (is : IsSpot t) where
    pub successors_none : (n s : ℕ) → successor_at t.entry.case.subject.app t.entry.method t.index n ≡ None → (k : ℕ) → PassesTo t s k → k < n
    successors_none n s off k z = ⊎_elim (λ lt. lt) (λ le. absurd (no_successor t.entry.case.subject t.entry.method is.entry.case.sound is.entry.method t.index n k z.0 off le z.1)) (cases_lt k n)

    pub successors_end : (n s : ℕ) → 4294967295 ≤ n → (k : ℕ) → PassesTo t s k → k < n
    successors_end n s le k z = (let few = successor_few t.entry.case.subject t.entry.method is.entry.case.sound is.entry.method t.index k z.0 z.1 in omega arith)

    pub handlers_none : (n : ℕ) (led : ℕ → Bool) → handler_at t.entry.case.subject.app t.entry.method t.index n ≡ None → (k : ℕ) → HandlesTo t led k → k < n
    handlers_none n led off k z = ⊎_elim (λ lt. lt) (λ le. absurd (no_handler t.entry.case.subject t.entry.method is.entry.case.sound is.entry.method t.index n k z.0 off le z.1)) (cases_lt k n)

    pub handlers_end : (n : ℕ) (led : ℕ → Bool) → 4294967295 ≤ n → (k : ℕ) → HandlesTo t led k → k < n
    handlers_end n led le k z = (let few = handler_few t.entry.case.subject t.entry.method is.entry.case.sound is.entry.method t.index k z.0 z.1 in omega arith)

-- callee number k
abbrev pub CallsNumber : Rule → Spot → (s : ℕ) → List MethodNo → (k : ℕ) → Type 0
CallsNumber rule t s callees k = (n : MethodNo) × (slice_get callees k ≡ Some n) × CallOut rule t n.0 s

module _ (rule : Rule) (t : Spot) (s : ℕ) (callees : List MethodNo) where
  pub calls_one : (k : ℕ) (d : MethodNo) (b : Bool) → k < length callees → (IsTrue b ↔ CallOut rule t (get_or callees k d).0 s) → IsTrue b ↔ CallsNumber rule t s callees k
  calls_one k d b lt test =
      let at = slice_get-get_or callees k d lt in (
        (λ h. (get_or callees k d, at, test.0 h)),
        (λ z. (let same : z.0 ≡ get_or callees k d = (let other = z.1 in cc) in test.1 (subst (λ (n : MethodNo). CallOut rule t n.0 s) same z.2))),
      )

  module _ (are : callees ≡ callees_at t.entry.case.subject t.entry.method t.index) where
    pub calls_none : NoneBelow (CallsNumber rule t s callees) (length callees) → IsTrue false ↔ CallsOut rule t s
    calls_none none = (
      (λ h. absurd (false≢true h)),
      (λ z. (let there : Contains callees z.0 = rw (sym are) at z.1 in absurd (none there.0 there.1 (z.0, slice_get_read callees (length callees) there.0 z.0 refl there.1 (sym there.2), z.2)))),
    )

    pub calls_some : (k : ℕ) (d : MethodNo) (b : Bool) → k < length callees → (IsTrue b ↔ CallOut rule t (get_or callees k d).0 s) → b ≡ true → IsTrue true ↔ CallsOut rule t s
    calls_some k d b lt test on = ((λ h. (get_or callees k d, subst (λ (xs : List MethodNo). Contains xs (get_or callees k d)) are (k, lt, get_or_default callees k _ d lt), test.0 on)), (λ z. refl))
