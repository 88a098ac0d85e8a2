-- The tests of one edge, and of one component that watches another.
use Rattle.std.proofs.Common.{◌≡◌, ◌≤◌, ℕ, Bool, true, false, Some, length, sym, ◌∙◌, subst, arith}
use Rattle.std.specs.Prelude.{◌↔◌, IsTrue}
use Rattle.std.proofs.lemmas.Bool.{false≢true}
use Rattle.app_model.specs.declared.component.Edge.{Edge}
use Rattle.app_model.specs.Components.{callback_at}
use Rattle.app_model.specs.Facts.{View}
use Rattle.app_model.specs.Masks.{in_mask}
use Rattle.solution.specs.Words.{IsMask}
use Rattle.cert_facts.specs.Cases.{Case, set_of}
use Rattle.cert_facts.specs.Moves.{Moves}
use Rattle.cert_check.specs.EdgeTests.{StartsOut, EdgeOut, SeesOut, WatchesOut}
use Rattle.cert_check.specs.Tests.{Misses}
use Rattle.cert_check.specs.declared.verdict.Rule.{Rule}
use Rattle.cert_check.specs.declared.verdict.Rule.TheVariants.{V3}
use Rattle.cert_facts.proofs.Carries.{mover_within}

pub edge_starts : (rule : Rule) (t : Case) (c : ℕ) (edge : Edge) (m s : ℕ) (b : Bool) → rule ≡ V3 → callback_at t.subject.list c edge.callback ≡ Some m → (IsTrue b ↔ StartsOut t c edge m s) → IsTrue b ↔ EdgeOut rule t c edge s
edge_starts rule t c edge m s b is at test = rw is (
  (λ h. (m, at, test.0 h)),
  (λ z. (let same : z.0 ≡ m = (let other = z.1 in cc) in test.1 (subst (λ n. StartsOut t c edge n s) same z.2))),
)

pub sees_one : (t : Case) (c q d s seen moved : ℕ) (b : Bool) → ((u : ℕ) → in_mask seen u ≡ set_of t (View c q u)) → IsMask (Moves t d s) moved → (IsTrue b ↔ ((in_mask seen s ≡ true) × Misses (in_mask moved) (in_mask seen))) → IsTrue b ↔ SeesOut t c q d s
sees_one t c q d s seen moved b reads mask test = (
  (λ h. (let z = test.0 h in (sym (reads s) ∙ z.0, (z.1.0, mask.only z.1.0 z.1.1, sym (reads z.1.0) ∙ z.1.2)))),
  (λ z. test.1 (reads s ∙ z.0, (z.1.0, mask.there z.1.0 z.1.1, reads z.1.0 ∙ z.1.2))),
)

pub watches_far : (t : Case) (c q d : ℕ) → length t.subject.list ≤ d → IsTrue false ↔ WatchesOut t c q d
watches_far t c q d past = ((λ h. absurd (false≢true h)), (λ z. absurd (let within = mover_within t d z.1.0 z.1.1.1.0 z.1.1.1.1 in omega arith)))
