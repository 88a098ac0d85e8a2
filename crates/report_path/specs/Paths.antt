-- The bodies of a report: ways through methods, of which each step leads on by a flow rule.
use Rattle.std.specs.Prelude.{ℕ, ◌≡◌, ◌≢◌, ◌<◌, ◌+◌, ◌==◌, Bool, true, false, List, [], ◌∷◌, length, Option, Some, None, option_map, position, slice_get}
use Rattle.dalvik.specs.declared.body.Place.{Place}
use Rattle.app_model.specs.Facts.{Fact, At, Ret, Exc}
use Rattle.app_model.specs.Parts.{AppParts}
use Rattle.app_model.specs.Subject.{SubjectParts}
use Rattle.app_model.specs.Words.{places_of}
use Rattle.flow_model.specs.Places.{inside_place, C1}
use Rattle.flow_model.specs.Rules.{Inside}
use Rattle.flow_model.specs.Subject.{status_masks}
use Rattle.report_path.specs.declared.report.BodyPath.{BodyPath}
use Rattle.report_path.specs.declared.report.Step.{Step}
use Rattle.report_path.specs.Lookups.{Has}

-- ---- what a body shows of its method, where that is entered at the body's entry: that it returns, or that a throw leaves it
abbrev pub end_fact : (thrown : Bool) → (m e s : ℕ) → Fact
end_fact true m e s = Exc m e s
end_fact false m e s = Ret m e s

abbrev pub end_of : BodyPath → Fact
end_of b = end_fact b.thrown b.method b.entry b.exit

-- what is shown by the body that is cited, where one is
abbrev pub cited_in : List BodyPath → Option ℕ → Option (List Fact)
cited_in bodies None = Some []
cited_in bodies (Some j) = option_map (λ b. end_of b ∷ []) (slice_get bodies j)

-- ---- steps
-- the instruction of method m at a pc
unfoldable pub index_at : AppParts → (m pc : ℕ) → Option ℕ
index_at app m pc = position (λ (place : Place). place.pc == pc) (places_of app m)

-- a rule inside callbacks leads on in one method: any but C1, which enters another
pub record Follows (x : SubjectParts) (l : ℕ) (needs : List Fact) (f : Fact) : Type 0 where
  pub rule : Inside x l (status_masks x l) needs f
  pub stays : (inside_place x l (status_masks x l) rule).rule ≢ C1

-- method m, entered at status e, for lock field l of a subject; the bodies that may be cited there
pub record Entry : Type 0 where
  pub subject : SubjectParts
  pub lock : ℕ
  pub before : List BodyPath
  pub method : ℕ
  pub status : ℕ

-- a step leads to a fact, with what it cites
pub record LeadsTo (t : Entry) (a : Step) (f : Fact) : Type 0 where
  pub status : a.status < 8
  pub by : Has (index_at t.subject.app t.method a.pc) (λ i. Has (cited_in t.before a.cites) (λ ends.
      Follows t.subject t.lock (At t.method t.status i a.status ∷ ends) f))

abbrev pub IsNext : Entry → (a b : Step) → Type 0
IsNext t a b = Has (index_at t.subject.app t.method b.pc) (λ j. LeadsTo t a (At t.method t.status j b.status))

-- at the first instruction of the method, at the status of the entry
abbrev pub Begins : Entry → List Step → Type 0
Begins t [] = ⊥
Begins t (a ∷ steps) = (index_at t.subject.app t.method a.pc ≡ Some 0) × (a.status ≡ t.status)

-- step number k leads to the next one, and the last one to the fact
pub record GoesOn (t : Entry) (steps : List Step) (f : Fact) (k : ℕ) : Type 0 where
  pub next : (a b : Step) → slice_get steps k ≡ Some a → slice_get steps (k + 1) ≡ Some b → IsNext t a b
  pub last : (a : Step) → slice_get steps k ≡ Some a → k + 1 ≡ length steps → LeadsTo t a f

-- a way from the entry to the fact
pub record IsPath (t : Entry) (steps : List Step) (f : Fact) : Type 0 where
  pub begins : Begins t steps
  pub goes_on : (k : ℕ) → k < length steps → GoesOn t steps f k

-- ---- a valid body, which cites bodies before it
abbrev pub entry_of : SubjectParts → (l : ℕ) → (before : List BodyPath) → BodyPath → Entry
entry_of x l before b = record { subject = x; lock = l; before = before; method = b.method; status = b.entry }

abbrev pub IsBody : SubjectParts → (l : ℕ) → (before : List BodyPath) → BodyPath → Type 0
IsBody x l before b = IsPath (entry_of x l before b) b.steps.items (end_of b)
