-- Where the edges of components lead the statuses by the facts of the set.
use Rattle.std.specs.Prelude.{ℕ, ◌≡◌, ◌<◌, ◌+◌, ◌*◌, ◌≤◌, true, List, length, Some, slice_index}
use Rattle.app_model.specs.declared.component.Edge.{Edge}
use Rattle.app_model.specs.Components.{edge_at}
use Rattle.app_model.specs.Facts.{Fact, View}
use Rattle.flow_model.specs.Derived.{HasAll}
use Rattle.flow_model.specs.Rules.{Carries}
use Rattle.solution.specs.Words.{IsMask}
use Rattle.cert_facts.specs.Cases.{Case, set_of}

-- ---- an edge of component c carries s to u
abbrev pub Carried : Case → (c : ℕ) → Edge → (s u : ℕ) → Type 0
Carried t c edge s u = (needs : List Fact) × Carries t.subject t.lock c edge s u needs × HasAll (set_of t) needs

-- edge e of component c moves from s to u
abbrev pub MovesBy : Case → (c s e u : ℕ) → Type 0
MovesBy t c s e u = (edge : Edge) × (edge_at t.subject.list c e ≡ Some edge) × (set_of t (View c edge.from s) ≡ true) × Carried t c edge s u

abbrev pub Moves : Case → (c s u : ℕ) → Type 0
Moves t c s u = (e : ℕ) × MovesBy t c s e u

-- ---- masks of the moves of all components, one for each status; the first n of them
pub record AreMoves (t : Case) (n : ℕ) (masks : List ℕ) : Type 0 where
  pub room : 8 * length t.subject.list ≤ length masks
  pub each : (c s : ℕ) → s < 8 → 8 * c + s < n → IsMask (Moves t c s) (slice_index masks (8 * c + s))
