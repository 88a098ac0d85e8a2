-- What the tests of one instruction find: a rule leads from a status before it to a fact that the set lacks.
use Rattle.std.specs.Prelude.{ℕ, ◌≡◌, ◌⊎◌, Bool, true, false, Some, Contains}
use Rattle.ns_base.specs.declared.rows.MethodNo.{MethodNo}
use Rattle.app_model.specs.Facts.{At, Ret, Exc}
use Rattle.app_model.specs.Masks.{in_mask}
use Rattle.app_model.specs.Subject.{callees_at}
use Rattle.app_model.specs.Words.{successor_at, handler_at, leaves_at}
use Rattle.flow_model.specs.Subject.{returns_at}
use Rattle.cert_facts.specs.Entries.{before, returned, thrown, masks_of, is_own, opens}
use Rattle.cert_facts.specs.Cases.{Spot, set_of}
use Rattle.cert_check.specs.declared.verdict.Rule.{Rule}
use Rattle.cert_check.specs.declared.verdict.Rule.TheVariants.{I1, I2, I3, C1, C2, C3}

-- the first test is true of a status of which the second is not
abbrev pub Misses : (ℕ → Bool) → (ℕ → Bool) → Type 0
Misses led there = (t : ℕ) × (led t ≡ true) × (there t ≡ false)

-- ---- from a status s before the instruction
-- on to successor number k, and to any
abbrev pub PassesTo : Spot → (s k : ℕ) → Type 0
PassesTo t s k =
    (j : ℕ) × (successor_at t.entry.case.subject.app t.entry.method t.index k ≡ Some j)
    × Misses (in_mask ((masks_of t).passes t.entry.method t.index k s)) (before t.entry j)

abbrev pub PassesOut : Spot → (s : ℕ) → Type 0
PassesOut t s = (k : ℕ) × PassesTo t s k

abbrev pub ReturnsOut : Spot → (s : ℕ) → Type 0
ReturnsOut t s = (returns_at t.entry.case.subject t.entry.method t.index ≡ true) × (returned t.entry s ≡ false)

-- what is thrown, to handler number k, to any, or out of the method
abbrev pub HandlesTo : Spot → (ℕ → Bool) → (k : ℕ) → Type 0
HandlesTo t led k = (h : ℕ) × (handler_at t.entry.case.subject.app t.entry.method t.index k ≡ Some h) × Misses led (before t.entry h)

abbrev pub HandlesOut : Spot → (ℕ → Bool) → Type 0
HandlesOut t led = (k : ℕ) × HandlesTo t led k

abbrev pub LeavesOut : Spot → (ℕ → Bool) → Type 0
LeavesOut t led = (leaves_at t.entry.case.subject.app t.entry.method t.index ≡ true) × Misses led (thrown t.entry)

abbrev pub ThrowsOut : Spot → (ℕ → Bool) → Type 0
ThrowsOut t led = HandlesOut t led ⊎ LeavesOut t led

-- back from a call of n
abbrev pub ComesBackOut : Spot → (n s : ℕ) → Type 0
ComesBackOut t n s =
    (j : ℕ) × (successor_at t.entry.case.subject.app t.entry.method t.index 0 ≡ Some j)
    × Misses (λ u. set_of t.entry.case (Ret n s u)) (before t.entry j)

-- by a call of n, which its receiver lets pass
abbrev pub CallOut : Rule → Spot → (n s : ℕ) → Type 0
CallOut C1 t n s = set_of t.entry.case (At n s 0 s) ≡ false
CallOut C2 t n s = ComesBackOut t n s
CallOut C3 t n s = ThrowsOut t (λ u. set_of t.entry.case (Exc n s u))
CallOut rule t n s = ⊥

abbrev pub CallsOut : Rule → Spot → (s : ℕ) → Type 0
CallsOut rule t s = (n : MethodNo) × Contains (callees_at t.entry.case.subject t.entry.method t.index) n × CallOut rule t n.0 s

abbrev pub StepsOut : Rule → Spot → (s : ℕ) → Type 0
StepsOut I1 t s = ((is_own t ≡ false) × PassesOut t s) ⊎ ReturnsOut t s
StepsOut I2 t s = (is_own t ≡ true) × PassesOut t s
StepsOut I3 t s = ThrowsOut t (in_mask ((masks_of t).throws t.entry.method t.index s))
StepsOut C1 t s = (opens t s ≡ true) × CallsOut C1 t s
StepsOut C2 t s = (opens t s ≡ true) × CallsOut C2 t s
StepsOut C3 t s = (opens t s ≡ true) × CallsOut C3 t s
StepsOut rule t s = ⊥

-- from a status that the set has there, and from any
abbrev pub SeenOut : Rule → Spot → (s : ℕ) → Type 0
SeenOut rule t s = (before t.entry t.index s ≡ true) × StepsOut rule t s

abbrev pub IsOut : Rule → Spot → Type 0
IsOut rule t = (s : ℕ) × SeenOut rule t s
