-- Where callbacks end, by the facts of the set, and the first violation of the exit policy.
use Rattle.std.specs.Prelude.{ℕ, ◌≡◌, ◌<◌, ◌==◌, ◌&&◌, ◌||◌, nat_lt, if◌then◌else◌, Bool, true, List, [], ◌∷◌, Option, Some, None, slice_get}
use Rattle.app_model.specs.declared.component.Edge.{Edge}
use Rattle.app_model.specs.Components.{edge_at}
use Rattle.app_model.specs.Facts.{View}
use Rattle.app_model.specs.Masks.{in_mask}
use Rattle.app_model.specs.Subject.{SubjectParts}
use Rattle.certificate.specs.Parts.{LockRows}
use Rattle.flow_model.specs.Derived.{HasAll}
use Rattle.flow_model.specs.Policy.{IsViolation}
use Rattle.flow_model.specs.Rules.{Carries}
use Rattle.flow_model.specs.declared.policy.Violation.{Violation}
use Rattle.cert_facts.specs.Cases.{Case, set_of}
use Rattle.cert_facts.specs.Moves.{Carried}
use Rattle.cert_facts.specs.Sets.{facts_in}
use Rattle.cert_check.specs.Verdict.{Precedes}

-- an edge of component c leads from status s, which the mask has, to u; from any
abbrev pub LeadsFrom : Case → (c : ℕ) → Edge → (seen : ℕ) → (s u : ℕ) → Type 0
LeadsFrom t c edge seen s u = (in_mask seen s ≡ true) × Carried t c edge s u

abbrev pub Leads : Case → (c : ℕ) → Edge → (u : ℕ) → Type 0
Leads t c edge u = (s : ℕ) × (set_of t (View c edge.from s) ≡ true) × Carried t c edge s u

-- edge e of component c ends callback k at status u; some edge does
abbrev pub EndsBy : Case → (c k e u : ℕ) → Type 0
EndsBy t c k e u = (edge : Edge) × (edge_at t.subject.list c e ≡ Some edge) × (edge.callback ≡ k) × Leads t c edge u

abbrev pub Ends : Case → (c k u : ℕ) → Type 0
Ends t c k u = (e : ℕ) × EndsBy t c k e u

-- ---- violations, and the first one of a callback, of a component, of a lock field, and of the first n lock fields
abbrev pub Violates : Case → (c k s : ℕ) → Type 0
Violates t c k s = IsViolation t.subject (Carries t.subject t.lock) t.lock (HasAll (set_of t)) c k s

abbrev pub IsFirstStatus : Case → (c k : ℕ) → Option ℕ → Type 0
IsFirstStatus t c k None = (s : ℕ) → ¬ Violates t c k s
IsFirstStatus t c k (Some s) = Violates t c k s × ((r : ℕ) → r < s → ¬ Violates t c k r)

abbrev pub IsFirstCallback : Case → (c : ℕ) → Option Violation → Type 0
IsFirstCallback t c None = (k s : ℕ) → ¬ Violates t c k s
IsFirstCallback t c (Some v) =
    (v.component ≡ c) × (v.lock ≡ t.lock) × Violates t c v.callback v.status × ((k s : ℕ) → Precedes (k ∷ s ∷ []) (v.callback ∷ v.status ∷ []) → ¬ Violates t c k s)

abbrev pub IsFirstOf : Case → Option Violation → Type 0
IsFirstOf t None = (c k s : ℕ) → ¬ Violates t c k s
IsFirstOf t (Some v) =
    (v.lock ≡ t.lock) × Violates t v.component v.callback v.status
    × ((c k s : ℕ) → Precedes (c ∷ k ∷ s ∷ []) (v.component ∷ v.callback ∷ v.status ∷ []) → ¬ Violates t c k s)

abbrev pub ViolatesIn : SubjectParts → List LockRows → (c k l s : ℕ) → Type 0
ViolatesIn x parts c k l s = IsViolation x (Carries x l) l (HasAll (facts_in (slice_get parts l))) c k s

abbrev pub IsFirstUnmet : SubjectParts → List LockRows → (n : ℕ) → Option Violation → Type 0
IsFirstUnmet x parts n None = (c k l s : ℕ) → l < n → ¬ ViolatesIn x parts c k l s
IsFirstUnmet x parts n (Some v) =
    (v.lock < n) × ViolatesIn x parts v.component v.callback v.lock v.status
    × ((c k l s : ℕ) → l < n → Precedes (c ∷ k ∷ l ∷ s ∷ []) (v.component ∷ v.callback ∷ v.lock ∷ v.status ∷ []) → ¬ ViolatesIn x parts c k l s)

-- the earlier of two violations of different lock fields; the first where they stand at the same component and callback
abbrev pub is_earlier : Violation → Violation → Bool
is_earlier w v = nat_lt w.component v.component || (w.component == v.component && nat_lt w.callback v.callback)

abbrev pub earlier : Option Violation → Option Violation → Option Violation
earlier None second = second
earlier (Some v) None = Some v
earlier (Some v) (Some w) = if is_earlier w v then Some w else Some v
