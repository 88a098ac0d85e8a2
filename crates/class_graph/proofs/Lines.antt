-- Loops up the superclasses, and along lists.
use Rattle.std.proofs.Common.{◌≡◌, ℕ, zero, suc, ◌+◌, ◌-◌, ◌<◌, ◌≤◌, ◌||◌, Bool, List, length, refl, arith, ◌∙◌, ap, sym, Option, Some, option_map, slice_get}
use Rattle.std.specs.List.{list_any}
use Rattle.std.proofs.lemmas.Option.{slice_get_past}
use Rattle.ns_base.specs.declared.rows.ClassNo.{ClassNo}
use Rattle.ns_base.specs.declared.rows.TypeNo.{TypeNo}
use Rattle.app_model.specs.Hierarchy.{nearest, or_else}
use Rattle.app_model.specs.Parts.{ClassParts}
use Rattle.class_graph.specs.Graph.{GraphParts, line_by, line_from, superclass_by}
use Rattle.class_graph.specs.Walks.{WalkParts, met_from, met_next, with_kinds}

-- a search along the line of a class has the same answer from the class reached on
abbrev pub SearchesOn : {A : Type 0} → (search : List ℕ → A) → GraphParts → (from here : Option ClassNo) → (step : ℕ) → Type 0
SearchesOn search graph from here step =
    search (line_by graph (option_map (λ (c : ClassNo). c.0) from)) ≡ search (line_from graph (length graph.above - step) (option_map (λ (c : ClassNo). c.0) here))

-- a class, or the classes above it
pub any_step : (test : ℕ → Bool) (graph : GraphParts) (n i c : ℕ) → i < n
    → list_any test (line_from graph (n - i) (Some c)) ≡ (test c || list_any test (line_from graph (n - (i + 1)) (superclass_by graph c)))
any_step test graph n i c below = let e : n - i ≡ suc (n - (i + 1)) = omega arith in rw e refl

pub nearest_step : (found : ℕ → Option ℕ) (graph : GraphParts) (n i c : ℕ) → i < n
    → nearest found (line_from graph (n - i) (Some c)) ≡ or_else (found c) (nearest found (line_from graph (n - (i + 1)) (superclass_by graph c)))
nearest_step found graph n i c below = let e : n - i ≡ suc (n - (i + 1)) = omega arith in rw e refl

-- one place of a walk
pub walk_step : (classes : List ClassParts) (n i : ℕ) (kinds : List TypeNo) → i < n
    → met_from classes (n - i) i kinds ≡ met_from classes (n - (i + 1)) (i + 1) (met_next classes kinds (slice_get kinds i))
walk_step classes n i kinds below = let e : n - i ≡ suc (n - (i + 1)) = omega arith in rw e refl

-- a walk past its end
pub walk_past : (classes : List ClassParts) (n i : ℕ) (kinds : List TypeNo) → length kinds ≤ i → met_from classes n i kinds ≡ kinds
walk_past classes zero i kinds past = refl
walk_past classes (suc n) i kinds past = ap (λ t. met_from classes n (i + 1) (met_next classes kinds t)) (slice_get_past kinds i past) ∙ walk_past classes n (i + 1) kinds (omega arith)

pub walk_done : (classes : List ClassParts) (n i : ℕ) (old new : WalkParts) (end : List TypeNo) → new ≡ with_kinds old new.kinds → length new.kinds ≤ i
    → met_from classes n i new.kinds ≡ end → new ≡ with_kinds old end
walk_done classes n i old new end kept past is = kept ∙ ap (with_kinds old) (sym (walk_past classes n i new.kinds past) ∙ is)
