-- What the tests of one edge find: a fact to which a rule leads, and which the set lacks.
use Rattle.std.specs.Prelude.{ℕ, ◌≡◌, ◌≢◌, ◌<◌, true, false, length, None, Some}
use Rattle.app_model.specs.declared.component.Edge.{Edge}
use Rattle.app_model.specs.Components.{edge_at, callback_at}
use Rattle.app_model.specs.Facts.{View, At}
use Rattle.flow_model.specs.Rules.{entered, no_lock}
use Rattle.cert_facts.specs.Cases.{Case, set_of}
use Rattle.cert_check.specs.declared.verdict.Rule.{Rule}
use Rattle.cert_check.specs.declared.verdict.Rule.TheVariants.{V1, V2, V3, V4, V5}
use Rattle.cert_facts.specs.Moves.{Carried, Moves}

-- ---- from a status of the component in the edge's state
abbrev pub MovesOut : Case → (c : ℕ) → Edge → (s : ℕ) → Type 0
MovesOut t c edge s = (u : ℕ) × Carried t c edge s u × (set_of t (View c edge.to u) ≡ false)

abbrev pub StartsOut : Case → (c : ℕ) → Edge → (m s : ℕ) → Type 0
StartsOut t c edge m s = set_of t (At m (entered t.subject t.lock c edge s) 0 (entered t.subject t.lock c edge s)) ≡ false

-- by whether the application has the callback's method
abbrev pub EdgeOut : Rule → Case → (c : ℕ) → Edge → (s : ℕ) → Type 0
EdgeOut V2 t c edge s = (callback_at t.subject.list c edge.callback ≡ None) × MovesOut t c edge s
EdgeOut V3 t c edge s = (m : ℕ) × (callback_at t.subject.list c edge.callback ≡ Some m) × StartsOut t c edge m s
EdgeOut V4 t c edge s = (m : ℕ) × (callback_at t.subject.list c edge.callback ≡ Some m) × MovesOut t c edge s
EdgeOut rule t c edge s = ⊥

abbrev pub SeenEdgeOut : Rule → Case → (c q : ℕ) → Edge → (s : ℕ) → Type 0
SeenEdgeOut rule t c q edge s = (set_of t (View c q s) ≡ true) × EdgeOut rule t c edge s

abbrev pub EdgesOut : Rule → Case → (c q e : ℕ) → Type 0
EdgesOut rule t c q e = (edge : Edge) × (edge_at t.subject.list c e ≡ Some edge) × (edge.from ≡ q) × ((s : ℕ) × SeenEdgeOut rule t c q edge s)

-- component c, in state q, sees a move of d
abbrev pub SeesOut : Case → (c q d s : ℕ) → Type 0
SeesOut t c q d s = (set_of t (View c q s) ≡ true) × ((u : ℕ) × Moves t d s u × (set_of t (View c q u) ≡ false))

abbrev pub WatchesOut : Case → (c q d : ℕ) → Type 0
WatchesOut t c q d = (d ≢ c) × ((s : ℕ) × SeesOut t c q d s)

abbrev pub BeginsOut : Case → (c q e : ℕ) → Type 0
BeginsOut t c q e = (c < length t.subject.list) × (q ≡ 0) × (e ≡ 0) × (set_of t (View c 0 no_lock) ≡ false)

-- the rules between callbacks, and the starts of callbacks
abbrev pub IsOutBetween : Rule → Case → (a b c : ℕ) → Type 0
IsOutBetween V1 t a b c = BeginsOut t a b c
IsOutBetween V2 t a b c = EdgesOut V2 t a b c
IsOutBetween V3 t a b c = EdgesOut V3 t a b c
IsOutBetween V4 t a b c = EdgesOut V4 t a b c
IsOutBetween V5 t a b c = WatchesOut t a b c
IsOutBetween rule t a b c = ⊥
