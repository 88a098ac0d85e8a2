-- The callees of a call rise, and those of a method that is reached can be entered.
use Rattle.std.proofs.Common.{◌≡◌, ◌<◌, length, ℕ, Option, Some, None, refl, subst, List, arith, slice_get, ◌≤◌, Bool, true, false, ⊎_elim, sym, ◌∙◌, get_or}
use Rattle.std.proofs.lemmas.Option.{slice_get_within, get_or_from_slice_get}
use Rattle.std.specs.List.{All}
use Rattle.std.proofs.lemmas.Bool.{cases_lt}
use Rattle.std.proofs.lemmas.List.{get_or_past}
use Rattle.std.proofs.lemmas.List.Elements.{Contains-get_or}
use Rattle.ns_base.specs.declared.rows.MethodNo.{MethodNo}
use Rattle.app_model.specs.Subject.{SubjectParts, IsSubject, IsEnterable, is_reached}
use Rattle.app_model.specs.CallGraph.{TargetParts, GraphParts, IsGraph, AreRising, callees_at, targets_at, targets_of, set_of, use_at}

set_rising : (sets : List TargetParts) (s : ℕ) → All (λ (set : TargetParts). AreRising set.callees) sets → AreRising (targets_of (slice_get sets s)).callees
set_rising sets s rising = go (slice_get sets s) refl
  where
    go : (set : Option TargetParts) → slice_get sets s ≡ set → AreRising (targets_of set).callees
    go None there = λ i j d before within. absurd (omega (arith, within))
    go (Some set) there =
        subst (λ (set : TargetParts). AreRising set.callees) (get_or_from_slice_get sets s set set there) (rising s set (slice_get_within sets s set there))

pub rising_at : (graph : GraphParts) (m i : ℕ) → IsGraph graph → AreRising (callees_at graph m i)
unfolding targets_at
rising_at graph m i sound = go (use_at graph m i)
  where
    go : (call : Option (Option ℕ)) → AreRising (set_of graph call).callees
    go None = λ i j d before within. absurd (omega (arith, within))
    go (Some None) = λ i j d before within. absurd (omega (arith, within))
    go (Some (Some s)) = set_rising graph.sets s sound.rising

reached_in : (x : SubjectParts) (m : ℕ) → is_reached x m ≡ true → m < length x.reached
unfolding is_reached
reached_in x m reached =
    ⊎_elim (λ within. within) (λ (past : length x.reached ≤ m). absurd (let no : ◌≡◌ {A = Bool} true false = sym reached ∙ get_or_past x.reached m false past in cc)) (cases_lt m (length x.reached))

pub enterable : (x : SubjectParts) (m : ℕ) → IsSubject x → is_reached x m ≡ true → IsEnterable x m
enterable x m sound reached = record {
  there = omega (arith, reached_in x m reached, sound.reaches.methods);
  reached = reached;
  begins = sound.reaches.begins m reached;
}

pub callees_enterable : (x : SubjectParts) (m i : ℕ) → IsSubject x → is_reached x m ≡ true → All (λ (n : MethodNo). IsEnterable x n.0) (callees_at x.graph m i)
callees_enterable x m i sound reached = λ (k : ℕ) (d : MethodNo) (within : k < length (callees_at x.graph m i)).
    enterable x _ sound (sound.reaches.callees m i (get_or (callees_at x.graph m i) k d) reached (Contains-get_or (callees_at x.graph m i) k d within))
